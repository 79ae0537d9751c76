-- The verdict on a ledger that was said to its end: whole, or the first of hash, state root and transactions' root that differs.
use Rattle.std.specs.Prelude.{◌≡◌, ◌≢◌, ℕ, ◌-◌, ◌^◌, min, ◌++◌, length, Option, Some, IfSome}
use Rattle.std.specs.Option.{option_map}
use Rattle.ledger_spec.specs.declared.Kind.TheVariants.{State, Tx}
use Rattle.ledger_spec.specs.Bytes.{Hash, Half, Items}
use Rattle.ledger_spec.specs.Forms.{header_prefix}
use Rattle.ledger_spec.specs.Header.{seq_of, state_root_of, tx_root_of}
use Rattle.ledger_spec.specs.Tree.{root_of}
use Rattle.audit_core.specs.declared.answer.Answer.{Answer}
use Rattle.audit_core.specs.declared.answer.Answer.TheVariants.{Whole, OtherHash, OtherState, OtherTx, Refused}
use Rattle.audit_core.specs.declared.answer.Sum.{Sum}
use Rattle.audit_core.specs.Said.{Said}

-- how many items there are, as a u64 holds it
abbrev pub counted : Items → ℕ
counted items = min (length items) (2 ^ 64 - 1)

module _ (half : Half) (s : Said) where
  -- the ledger's hash
  abbrev pub ledger_hash : Hash
  ledger_hash = half (header_prefix ++ s.header)

  -- the state's items are those that the header names
  abbrev pub IsOwnState : Type 0
  IsOwnState = root_of half State s.items ≡ state_root_of s.header

  -- and so are the transactions, where they are given
  abbrev pub IsOwnTx : Type 0
  IsOwnTx = IfSome s.txs (λ txs. root_of half Tx txs ≡ tx_root_of s.header)

  -- the header, by its hash and sequence, and how many items there are of each map
  pub record Sums (sum : Sum) : Type 0 where
    pub hash : sum.hash ≡ ledger_hash
    pub seq : sum.seq ≡ seq_of s.header
    pub root : sum.root ≡ state_root_of s.header
    pub objects : sum.objects ≡ counted s.items
    pub txs : sum.transactions ≡ option_map counted s.txs

-- the ledger's hash is the one that is expected, where one is
abbrev pub IsExpected : Half → Option Hash → Said → Type 0
IsExpected half expect s = IfSome expect (λ h. h ≡ ledger_hash half s)

-- the first thing that differs, in this order: the ledger's hash, the state's root, the transactions' root; or nothing does
abbrev pub IsVerdict : Half → Option Hash → Said → Answer → Type 0
IsVerdict half expect s (Whole sum) = IsExpected half expect s × IsOwnState half s × IsOwnTx half s × Sums half s sum
IsVerdict half expect s (OtherHash wanted found) = (expect ≡ Some wanted) × (found ≡ ledger_hash half s) × (wanted ≢ found)
IsVerdict half expect s (OtherState named found) =
    IsExpected half expect s × (named ≡ state_root_of s.header) × (found ≡ root_of half State s.items) × (named ≢ found)
IsVerdict half expect s (OtherTx named found) =
    IsExpected half expect s × IsOwnState half s × (named ≡ tx_root_of s.header) × IfSome s.txs (λ txs. found ≡ root_of half Tx txs)
    × (named ≢ found)
IsVerdict half expect s (Refused line cause) = ⊥

-- no line is refused
abbrev pub IsAccepted : Answer → Type 0
IsAccepted (Refused line cause) = ⊥
IsAccepted (Whole sum) = Unit {0}
IsAccepted (OtherHash wanted found) = Unit {0}
IsAccepted (OtherState named found) = Unit {0}
IsAccepted (OtherTx named found) = Unit {0}
