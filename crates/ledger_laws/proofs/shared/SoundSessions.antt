-- What holds of each session in a sound state. For proofs of other crates.
use Rattle.std.proofs.Common.{ℕ, zero, suc, ◌+◌, ◌<◌, ◌^◌, ◌++◌}
use Rattle.std.proofs.Common.{List, [], ◌∷◌, length, map, IsSomeAnd, Contains}
use Rattle.std.proofs.Common.{get_or, refl, arith}
use Rattle.std.specs.Map.{keys_of, values_of}
use Rattle.std.specs.List.{All}
use Rattle.std.proofs.lemmas.List.Elements.{Contains-append_right}
use Rattle.ledger_spec.specs.declared.Kind.TheVariants as kinds
use Rattle.ledger_spec.specs.Bytes.{Half}
use Rattle.ledger_spec.specs.Header.{seq_of}
use Rattle.ledger_spec.specs.Spots.{header_in}
use Rattle.ledger_spec.specs.Tree.{AreItems}
use Rattle.ledger_machine.specs.State.{State, Session, form_in, bases}
use Rattle.ledger_machine.specs.Sound.{Sound, IsWholeLedger}
use Rattle.ledger_laws.proofs.shared.SoundForms.{in_tail}

-- what holds of a session in a sound state: its base is whole and has a next one, and it edits two maps of items
pub record IsFit (half : Half) (s : State) (e : Session) : Type 0 where
  pub whole : IsWholeLedger half (form_in s) e.base
  pub next : IsSomeAnd (header_in (form_in s) e.base) (λ h. seq_of h + 1 < 2 ^ 32)
  pub accounts : AreItems half kinds.State e.accounts
  pub txs : AreItems half kinds.Tx e.txs

-- each value's image is among the images
pub in_map : {A B : Type 0} (f : A → B) (xs : List A) (k : ℕ) (d : A) → k < length xs → Contains (map f xs) (f (get_or xs k d))
in_map f [] k d lt = absurd (omega arith)
in_map f (x ∷ xs) zero d lt = (0, omega arith, refl)
in_map f (x ∷ xs) (suc k) d lt = in_tail (f x) (f (get_or xs k d)) (map f xs) (in_map f xs k d (omega (arith, lt)))

pub fits_of : (half : Half) (s : State) → Sound half s → All (IsFit half s) (values_of s.sessions)
fits_of half s sound k d lt =
    let e : Session = get_or (values_of s.sessions) k d in
    let base : Contains (bases s) e.base = in_map (λ (x : Session). x.base) (values_of s.sessions) k d lt in
    record {
      whole = sound.retained_whole e.base (Contains-append_right (keys_of s.listed ++ values_of s.views) (bases s) e.base base);
      next = sound.base_seq e.base base;
      accounts = (sound.tables.edits k d lt).0;
      txs = (sound.tables.edits k d lt).1;
    }
