-- A store that begins with what was recovered holds it.
use Rattle.std.proofs.Common.{◌≡◌, Bool, true, false, cond, [], ◌∷◌, ◌∙◌, map, Some, None, refl, sym, ap}
use Rattle.std.proofs.lemmas.Option.{none-some}
use Rattle.std.specs.Prelude.{T}
use Rattle.std.specs.Ordering.{eq_by_cmp}
use Rattle.std.specs.Cmp.Lexicographic.{nat_list_cmp_total}
use Rattle.std.specs.FinMap as finite
use Rattle.std.specs.FinMap.{find, get-insert, is_sorted}
use Rattle.std.specs.FinMap.Entries.{below_all}
use Rattle.ledger_spec.specs.Maps.{hash_cmp}
use Rattle.ledger_spec.specs.Bytes.{Bytes, Hash, Nodes}
use Rattle.ledger_machine.specs.Records.{with_records}
use Rattle.ledger_machine.proofs.shared.Entries.{Entries, said, first, second, found_below}
use Rattle.log_shelf.proofs.shared.Recovery.{same_key}
use Rattle.log_recovery.specs.Records.{records_of}

-- what the entries don't say is held as before
held_before : (nodes : Nodes) (es : Entries) (h : Hash) → find hash_cmp h es ≡ None
    → finite.get (with_records nodes (map said es)) h ≡ finite.get nodes h
held_before nodes [] h none = refl
held_before nodes (e ∷ es) h none =
    at (eq_by_cmp hash_cmp h e.0) refl none (λ rest. held_before (finite.insert nodes e.0 e.1) es h rest)
  where
    at : (b : Bool) → eq_by_cmp hash_cmp h e.0 ≡ b → cond b (Some e.1) (find hash_cmp h es) ≡ None
        → (find hash_cmp h es ≡ None
        → finite.get (with_records (finite.insert nodes e.0 e.1) (map said es)) h ≡ finite.get (finite.insert nodes e.0 e.1) h)
        → finite.get (with_records (finite.insert nodes e.0 e.1) (map said es)) h ≡ finite.get nodes h
    at true is some later = absurd (none-some _ (sym some))
    at false is rest later =
        later rest ∙ get-insert nat_list_cmp_total nodes e.0 e.1 h ∙ ap (λ (b : Bool). cond b (Some e.1) (finite.get nodes h)) is

-- what the entries say, their keys rising, is held
said_held : (nodes : Nodes) (es : Entries) (h : Hash) (form : Bytes) → T (is_sorted hash_cmp es) → find hash_cmp h es ≡ Some form
    → finite.get (with_records nodes (map said es)) h ≡ Some form
said_held nodes [] h form rise some = absurd (none-some _ some)
said_held nodes (e ∷ es) h form rise some =
    at (eq_by_cmp hash_cmp h e.0) refl some
    (λ rest. said_held (finite.insert nodes e.0 e.1) es h form (second (below_all hash_cmp e.0 es) (is_sorted hash_cmp es) rise) rest)
  where
    at : (b : Bool) → eq_by_cmp hash_cmp h e.0 ≡ b → cond b (Some e.1) (find hash_cmp h es) ≡ Some form
        → (find hash_cmp h es ≡ Some form → finite.get (with_records (finite.insert nodes e.0 e.1) (map said es)) h ≡ Some form)
        → finite.get (with_records (finite.insert nodes e.0 e.1) (map said es)) h ≡ Some form
    at true is own later =
        let below = first (below_all hash_cmp e.0 es) (is_sorted hash_cmp es) rise in
        let none : find hash_cmp h es ≡ None = ap (λ (q : Hash). find hash_cmp q es) (same_key h e.0 is) ∙ found_below e.0 es below in
        held_before (finite.insert nodes e.0 e.1) es h none ∙ get-insert nat_list_cmp_total nodes e.0 e.1 h
        ∙ ap (λ (b : Bool). cond b (Some e.1) (finite.get nodes h)) is ∙ own
    at false is rest later = later rest

-- what a map has is held by a store that begins with its pairs
pub records_held : (found : Nodes) (h : Hash) (form : Bytes) → finite.get found h ≡ Some form
    → finite.get (with_records finite.empty (records_of found)) h ≡ Some form
records_held found h form some =
    said_held finite.empty (finite.entries found) h form (finite.entries_sorted found) (sym (finite.get-entries found h) ∙ some)
