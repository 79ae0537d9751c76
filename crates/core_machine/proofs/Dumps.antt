-- The next stored record is the first of those that come after.
use Rattle.std.proofs.Common.{◌≡◌, Bool, true, false, cond, List, [], ◌∷◌, ◌∙◌, map, Option, None, Some, is_some, refl, sym, ap, subst}
use Rattle.std.proofs.lemmas.Map.Lookups.{exact_bytes}
use Rattle.std.proofs.lemmas.Option.{none-some}
use Rattle.std.specs.Prelude.{◌&&◌, T, IfSome}
use Rattle.std.specs.List.{filter}
use Rattle.std.specs.Option.{IsSome}
use Rattle.std.specs.declared.cmp.Ordering.{Ordering}
use Rattle.std.specs.declared.cmp.Ordering.TheVariants.{Less, Equal, Greater}
use Rattle.std.specs.Ordering.{is_lt, is_eq, is_gt}
use Rattle.std.specs.Cmp.Lexicographic.{nat_list_cmp_total}
use Rattle.std.specs.FinMap as finite
use Rattle.std.specs.FinMap.{find, is_sorted}
use Rattle.std.specs.FinMap.Entries.{below_all}
use Rattle.std.specs.BTreeMap.Range.{IsLeBy}
use Rattle.ledger_spec.specs.Bytes.{Bytes, Hash, Half, Lookup, Nodes}
use Rattle.ledger_spec.specs.Own.{AreStored, own_forms}
use Rattle.ledger_spec.proofs.shared.Owning.{all_own}
use Rattle.ledger_spec.specs.Maps.{hash_cmp}
use Rattle.node_backend.specs.Order.{IsAfter, IsNext}
use Rattle.ledger_machine.specs.declared.commands.Record.{Record}
use Rattle.ledger_machine.proofs.shared.Entries.{Entries, said, first, second, less, found_below, found_first}
use Rattle.core_machine.specs.Dumping.{comes_after, Follows, IsNextRecord}

-- what of the entries comes after a hash
abbrev behind : Option Hash → Entries → List Record
behind after es = filter (λ r. comes_after after r.hash) (map said es)

not_true : {A : Type 0} → true ≡ false → A
not_true e = absurd (subst T e tt)

less_is : (o : Ordering) → is_lt o ≡ true → o ≡ Less
less_is o e = less o (subst T (sym e) tt)

after_is : (after : Option Hash) (h : Hash) → comes_after after h ≡ true → IsAfter after h
after_is None h e = tt
after_is (Some last) h e = less_is (hash_cmp last h) e

after_yes : (after : Option Hash) (h : Hash) → IsAfter after h → comes_after after h ≡ true
after_yes None h e = refl
after_yes (Some last) h e = ap is_lt e

after_later : (after : Option Hash) (x h : Hash) → IsAfter after x → hash_cmp x h ≡ Less → IsAfter after h
after_later None x h at less = tt
after_later (Some last) x h at less = nat_list_cmp_total.trans last x h at less

below_later : (x y : Hash) (es : Entries) → hash_cmp x y ≡ Less → T (below_all hash_cmp y es) → T (below_all hash_cmp x es)
below_later x y [] l b = tt
below_later x y (e ∷ es) l b =
    let here : hash_cmp x e.0 ≡ Less = nat_list_cmp_total.trans x y e.0 l (less (hash_cmp y e.0) (first _ _ b)) in
    subst (λ (r : Ordering). T (is_lt r && below_all hash_cmp x es)) (sym here) (below_later x y es l (second _ _ b))

find_behind : (h : Hash) (e : Hash × Bytes) (es : Entries) → find hash_cmp h (e ∷ es) ≡ None → find hash_cmp h es ≡ None
find_behind h e es none =
    elim (is_eq (hash_cmp h e.0)) as (λ b. cond b (Some e.1) (find hash_cmp h es) ≡ None → find hash_cmp h es ≡ None) [
      | true ↦ λ some. absurd (none-some _ (sym some))
      | false ↦ λ rest. rest
    ] none

-- nothing comes after
none_behind : (after : Option Hash) (es : Entries) → ((h : Hash) → IsAfter after h → find hash_cmp h es ≡ None) → behind after es ≡ []
none_behind after [] absent = refl
none_behind after (e ∷ es) absent =
    elim (comes_after after e.0) as (λ b. comes_after after e.0 ≡ b → cond b (said e ∷ behind after es) (behind after es) ≡ []) [
      | true ↦ λ t. absurd (none-some _ (sym (absent e.0 (after_is after e.0 t)) ∙ found_first e es))
      | false ↦ λ f. none_behind after es (λ h later. find_behind h e es (absent h later))
    ] refl

-- all of these come after
all_behind : (after : Option Hash) (x : Hash) (es : Entries) → ((h : Hash) → hash_cmp x h ≡ Less → comes_after after h ≡ true)
    → T (below_all hash_cmp x es) → behind after es ≡ map said es
all_behind after x [] all b = refl
all_behind after x (e ∷ es) all b =
    ap (λ (t : Bool). cond t (said e ∷ behind after es) (behind after es)) (all e.0 (less (hash_cmp x e.0) (first _ _ b)))
    ∙ ap (λ (rs : List Record). said e ∷ rs) (all_behind after x es all (second _ _ b))

-- the least key that comes after is the first of those that do
one_behind : (after : Option Hash) (next : Hash) (form : Bytes) (es : Entries) → T (is_sorted hash_cmp es) → IsAfter after next
    → find hash_cmp next es ≡ Some form
    → ((h : Hash) → IsAfter after h → IsSome (find hash_cmp h es) → IsLeBy hash_cmp next h)
    → behind after es ≡ record { hash = next; form = form } ∷ behind (Some next) es
one_behind after next form [] sorted at found least = absurd (none-some _ found)
one_behind after next form (e ∷ es) sorted at found least =
    elim (comes_after after e.0) as (λ b. comes_after after e.0 ≡ b
    → cond b (said e ∷ behind after es) (behind after es) ≡ record { hash = next; form = form } ∷ behind (Some next) (e ∷ es)) [
      | true ↦ λ t. here t (hash_cmp next e.0) refl
      | false ↦ λ f. later f (hash_cmp next e.0) refl (λ held all. one_behind after next form es (second _ _ sorted) at held all)
    ] refl
  where
    here : comes_after after e.0 ≡ true → (o : Ordering) → hash_cmp next e.0 ≡ o
        → said e ∷ behind after es ≡ record { hash = next; form = form } ∷ behind (Some next) (e ∷ es)
    here t Less is =
        absurd (none-some _ (sym (found_below next (e ∷ es)
        (subst (λ (r : Ordering). T (is_lt r && below_all hash_cmp next es)) (sym is) (below_later next e.0 es is (first _ _ sorted))))
        ∙ found))
    here t Greater is =
        let le : IsLeBy hash_cmp next e.0 = least e.0 (after_is after e.0 t) (ap is_some (found_first e es)) in
        not_true (sym (ap is_gt is) ∙ le)
    here t Equal is =
        let key : next ≡ e.0 = exact_bytes next e.0 is in
        let value : form ≡ e.1 = ap (λ (o : Option Bytes). elim o as (λ _. Bytes) [ None ↦ form | Some x ↦ x ])
        (sym found ∙ ap (λ (r : Ordering). cond (is_eq r) (Some e.1) (find hash_cmp next es)) is) in
        ap (λ (rs : List Record). said e ∷ rs)
        (all_behind after e.0 es (λ h l. after_yes after h (after_later after e.0 h (after_is after e.0 t) l)) (first _ _ sorted)
        ∙ sym (all_behind (Some next) e.0 es (λ h l. ap is_lt (ap (λ (k : Hash). hash_cmp k h) key ∙ l)) (first _ _ sorted))
        ∙ sym (ap (λ (r : Ordering). cond (is_lt r) (said e ∷ behind (Some next) es) (behind (Some next) es)) is))
        ∙ ap (λ (r : Record). r ∷ behind (Some next) (e ∷ es))
        (ap (λ (k : Hash). record { hash = k; form = e.1 }) (sym key)
        ∙ ap (λ (x : Bytes). record { hash = next; form = x }) (sym value))

    more : (h : Hash) → IsSome (find hash_cmp h es) → IsSome (find hash_cmp h (e ∷ es))
    more h some =
        elim (is_eq (hash_cmp h e.0)) as (λ b. is_some (cond b (Some e.1) (find hash_cmp h es)) ≡ true) [ true ↦ refl | false ↦ some ]

    later : comes_after after e.0 ≡ false → (o : Ordering) → hash_cmp next e.0 ≡ o
        → (find hash_cmp next es ≡ Some form → ((h : Hash) → IsAfter after h → IsSome (find hash_cmp h es) → IsLeBy hash_cmp next h)
        → behind after es ≡ record { hash = next; form = form } ∷ behind (Some next) es)
        → behind after es ≡ record { hash = next; form = form } ∷ behind (Some next) (e ∷ es)
    later f Less is rest = not_true (sym (after_yes after e.0 (after_later after next e.0 at is)) ∙ f)
    later f Equal is rest = not_true (sym (after_yes after e.0 (subst (IsAfter after) (exact_bytes next e.0 is) at)) ∙ f)
    later f Greater is rest =
        rest (sym (ap (λ (r : Ordering). cond (is_eq r) (Some e.1) (find hash_cmp next es)) is) ∙ found)
        (λ h a some. least h a (more h some))
        ∙ ap (λ (rs : List Record). record { hash = next; form = form } ∷ rs)
        (sym (ap (λ (r : Ordering). cond (is_lt r) (said e ∷ behind (Some next) es) (behind (Some next) es)) is))

-- nothing more is stored
pub no_next : (nodes : Nodes) (after : Option Hash) → IsNext nodes after None → IsNextRecord nodes after None
no_next nodes after none =
    none_behind after (finite.entries nodes) (λ h a. sym (finite.get-entries nodes h) ∙ none h a)

-- the next record
pub has_next : (nodes : Nodes) (after : Option Hash) (next : Hash) (form : Bytes) → IsNext nodes after (Some next)
    → finite.get nodes next ≡ Some form → IsNextRecord nodes after (Some (record { hash = next; form = form }))
has_next nodes after next form is held =
    one_behind after next form (finite.entries nodes) (finite.entries_sorted nodes) is.0 (sym (finite.get-entries nodes next) ∙ held)
    (λ h a some. is.2 h a (ap is_some (finite.get-entries nodes h) ∙ some))

-- what is held of what is stored under the next hash is there
pub next_held : (half : Half) (nodes : Nodes) (after : Option Hash) (next : Hash) → AreStored half (finite.get nodes)
    → IsNext nodes after (Some next) → IsSome (own_forms half (finite.get nodes) next)
next_held half nodes after next all is = ap (λ (f : Lookup). is_some (f next)) (all_own half (finite.get nodes) all) ∙ is.1

-- the next record, by what is held under the next hash
pub next_is : (half : Half) (nodes : Nodes) (after : Option Hash) (next : Hash) (form : Bytes) → AreStored half (finite.get nodes)
    → IsNext nodes after (Some next) → Some form ≡ own_forms half (finite.get nodes) next
    → IsNextRecord nodes after (Some (record { hash = next; form = form }))
next_is half nodes after next form all is held =
    has_next nodes after next form is (sym (held ∙ ap (λ (f : Lookup). f next) (all_own half (finite.get nodes) all)))

-- the same, said of other names
pub next_from : (nodes nodes' : Nodes) (a b d o o' : Option Hash) → nodes' ≡ nodes → a ≡ b → b ≡ d → o ≡ o' → IsNext nodes' a o
    → IsNext nodes d o'
next_from nodes nodes' a b d o o' same first then found is =
    subst (λ (n : Nodes). IsNext n d o') same
    (subst (λ (x : Option Hash). IsNext nodes' x o') (first ∙ then) (subst (λ (x : Option Hash). IsNext nodes' a x) found is))

pub follows_of : (a b o : Option Hash) (h : Hash) → a ≡ b → o ≡ Some h → IfSome o (Follows a) → Follows b h
follows_of a b o h same found follows =
    subst (λ (x : Option Hash). Follows x h) same (subst (λ (x : Option Hash). IfSome x (Follows a)) found follows)

-- something is held under the next hash
pub next_some : (half : Half) (nodes nodes' : Nodes) (after : Option Hash) (next : Hash) (field : Option Bytes)
    → AreStored half (finite.get nodes)
    → IsNext nodes after (Some next) → nodes' ≡ nodes → field ≡ own_forms half (finite.get nodes') next
    → ((x : Bytes) → field ≡ Some x → ⊥) → ⊥
next_some half nodes nodes' after next None all is same found none =
    none_held (ap is_some (found ∙ ap (λ (n : Nodes). own_forms half (finite.get n) next) same) ∙ next_held half nodes after next all is)
  where
    none_held : false ≡ true → ⊥
    none_held e = not_true (sym e)
next_some half nodes nodes' after next (Some x) all is same found none = none x refl
