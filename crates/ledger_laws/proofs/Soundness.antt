-- The first state is sound.
use Rattle.std.proofs.Common.{◌≡◌, ◌<◌, arith, ℕ, [], Some, None, Contains}
use Rattle.std.specs.FinMap as map
use Rattle.ledger_spec.specs.Bytes.{Bytes, Hash, Half, Nodes}
use Rattle.ledger_spec.specs.Maps.{hash_cmp, numbered_cmp}
use Rattle.ledger_machine.specs.State.{opening}
use Rattle.ledger_machine.specs.Sound.{Sound, IsStoredAt}
use Rattle.ledger_laws.proofs.SoundTables.{none_rises}

no_some : {A : Type 0} {x : A} → None ≡ Some x → ⊥
no_some e = cc

nothing_there : (t : Hash) → Contains [] t → ⊥
nothing_there t c = let below : c.0 < 0 = c.1 in omega (arith, below)

pub opening_is_sound : (half : Half) (records : Nodes) (interval : ℕ)
    → ((h : Hash) (form : Bytes) → map.get records h ≡ Some form → IsStoredAt half h form) → Sound half (opening records interval)
opening_is_sound half records interval each = record {
  forms = each;
  retained_whole = λ t c. absurd (nothing_there t c);
  listed_seq = λ t seq e. absurd (no_some e);
  base_seq = λ t c. absurd (nothing_there t c);
  tables = record {
    listed = none_rises hash_cmp;
    wanted = none_rises hash_cmp;
    charges = λ k d lt. absurd (omega arith);
    views = none_rises numbered_cmp;
    sessions = none_rises numbered_cmp;
    edits = λ k d lt. absurd (omega arith);
  };
}
