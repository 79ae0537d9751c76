-- Entries whose keys rise, as a finite map lists them. For proofs of other crates.
use Rattle.std.proofs.Common.{◌≡◌, Bool, true, false, cond, List, [], ◌∷◌, ◌∙◌, None, Some, refl, ap}
use Rattle.std.specs.Prelude.{T, ◌&&◌}
use Rattle.std.specs.declared.cmp.Ordering.{Ordering}
use Rattle.std.specs.declared.cmp.Ordering.TheVariants.{Less, Equal, Greater}
use Rattle.std.specs.Ordering.{is_lt, is_eq}
use Rattle.std.specs.Cmp.{tied_itself}
use Rattle.std.specs.Cmp.Lexicographic.{nat_list_cmp_total}
use Rattle.std.specs.FinMap.{find}
use Rattle.std.specs.FinMap.Entries.{below_all}
use Rattle.ledger_spec.specs.Bytes.{Bytes, Hash}
use Rattle.ledger_spec.specs.Maps.{hash_cmp}
use Rattle.ledger_machine.specs.declared.commands.Record.{Record}

abbrev pub Entries : Type 0
Entries = List (Hash × Bytes)

abbrev pub said : Hash × Bytes → Record
said e = record { hash = e.0; form = e.1 }

pub first : (a b : Bool) → T (a && b) → T a
first true b p = tt
first false b p = p

pub second : (a b : Bool) → T (a && b) → T b
second true b p = p
second false b p = absurd p

pub less : (o : Ordering) → T (is_lt o) → o ≡ Less
less Less p = refl
less Equal p = absurd p
less Greater p = absurd p

-- a key below all others is none of theirs
pub found_below : (q : Hash) (es : Entries) → T (below_all hash_cmp q es) → find hash_cmp q es ≡ None
found_below q [] below = refl
found_below q (e ∷ es) below =
    ap (λ (r : Ordering). cond (is_eq r) (Some e.1) (find hash_cmp q es)) (less (hash_cmp q e.0) (first _ _ below))
    ∙ found_below q es (second _ _ below)

-- the first entry is found under its key
pub found_first : (e : Hash × Bytes) (es : Entries) → find hash_cmp e.0 (e ∷ es) ≡ Some e.1
found_first e es = ap (λ (r : Ordering). cond (is_eq r) (Some e.1) (find hash_cmp e.0 es)) (tied_itself nat_list_cmp_total e.0)
