-- A ledger's header, 118 bytes.
use Rattle.std.specs.Prelude.{◌≡◌, ℕ, ◌<◌, ◌^◌, ◌++◌, ◌∷◌, [], length, take, drop}
use Rattle.std.specs.Int.{w32, w64, to_be_bytes, from_be_bytes}
use Rattle.ledger_spec.specs.Bytes.{Bytes, Hash}

-- a header's fields
pub record HeaderFields : Type 0 where
  pub seq : ℕ
  pub drops : ℕ
  pub parent : Hash
  pub tx_root : Hash
  pub state_root : Hash
  pub parent_close : ℕ
  pub close : ℕ
  pub resolution : ℕ
  pub flags : ℕ

-- the numbers are within their sizes, and the hashes have 32 bytes
pub record IsHeader (h : HeaderFields) : Type 0 where
  pub seq : h.seq < 2 ^ 32
  pub drops : h.drops < 2 ^ 64
  pub parent : length h.parent ≡ 32
  pub tx_root : length h.tx_root ≡ 32
  pub state_root : length h.state_root ≡ 32
  pub parent_close : h.parent_close < 2 ^ 32
  pub close : h.close < 2 ^ 32
  pub resolution : h.resolution < 2 ^ 8
  pub flags : h.flags < 2 ^ 8

-- the 118 bytes: sequence (4), total drops (8), parent hash, transaction root, state root (32 each), parent close time (4), close time (4),
-- close resolution (1), close flags (1), numbers high byte first
unfoldable pub header_bytes : HeaderFields → Bytes
header_bytes h =
    to_be_bytes w32 h.seq ++ to_be_bytes w64 h.drops ++ h.parent ++ h.tx_root ++ h.state_root
    ++ to_be_bytes w32 h.parent_close ++ to_be_bytes w32 h.close ++ h.resolution ∷ h.flags ∷ []

-- the parts of a header that the definitions read
abbrev pub seq_of : Bytes → ℕ
seq_of header = from_be_bytes w32 (take 4 header)

abbrev pub tx_root_of : Bytes → Hash
tx_root_of header = take 32 (drop 44 header)

abbrev pub state_root_of : Bytes → Hash
state_root_of header = take 32 (drop 76 header)

abbrev pub close_of : Bytes → ℕ
close_of header = from_be_bytes w32 (take 4 (drop 112 header))
