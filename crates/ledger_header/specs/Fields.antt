-- A header's fields, and how they are read of its bytes.
use Rattle.std.specs.Prelude.{◌≡◌, take, drop, slice_index}
use Rattle.std.specs.Int.{w32, w64, from_be_bytes}
use Rattle.ledger_spec.specs.Bytes.{Bytes}
use Rattle.ledger_spec.specs.Header.{HeaderFields, seq_of, tx_root_of, state_root_of, close_of}
use Rattle.ledger_header.specs.declared.Header.{Header}

abbrev pub fields : Header → HeaderFields
fields h = record {
  seq = h.seq;
  drops = h.drops;
  parent = h.parent;
  tx_root = h.tx_root;
  state_root = h.state_root;
  parent_close = h.parent_close;
  close = h.close;
  resolution = h.resolution;
  flags = h.flags;
}

-- the fields as they are read of the bytes, four of them by the words of the definitions
pub record Reads (bytes : Bytes) (h : Header) : Type 0 where
  pub seq : seq_of bytes ≡ h.seq
  pub drops : from_be_bytes w64 (take 8 (drop 4 bytes)) ≡ h.drops
  pub parent : take 32 (drop 12 bytes) ≡ h.parent
  pub tx_root : tx_root_of bytes ≡ h.tx_root
  pub state_root : state_root_of bytes ≡ h.state_root
  pub parent_close : from_be_bytes w32 (take 4 (drop 108 bytes)) ≡ h.parent_close
  pub close : close_of bytes ≡ h.close
  pub resolution : slice_index bytes 116 ≡ h.resolution
  pub flags : slice_index bytes 117 ≡ h.flags
