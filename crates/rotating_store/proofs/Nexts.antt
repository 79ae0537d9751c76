-- The next hash of two maps.
use Rattle.std.proofs.Common.{◌≡◌, ◌⊎◌, inl, inr, true, false, cond, Option, Some, None, refl, sym, ◌∙◌, ap, subst}
use Rattle.std.specs.Option.{IsSome, option_or}
use Rattle.std.specs.Ordering.{is_gt, ordering_reverse}
use Rattle.std.specs.declared.cmp.Ordering.{Ordering}
use Rattle.std.specs.declared.cmp.Ordering.TheVariants.{Less, Equal, Greater}
use Rattle.std.specs.Cmp.{upto}
use Rattle.std.specs.Cmp.Lexicographic.{nat_list_cmp_total}
use Rattle.std.specs.BTreeMap.Range.{IsLeBy}
use Rattle.std.specs.FinMap as map
use Rattle.ledger_spec.specs.Maps.{hash_cmp}
use Rattle.ledger_spec.specs.Bytes.{Bytes, Hash, Nodes}
use Rattle.node_backend.specs.Order.{IsAfter, IsNext}
use Rattle.rotating_store.specs.Stores.{merged, lesser_of}
use Rattle.rotating_store.proofs.shared.Merging.{get-merged}

no_some : {X : Type 0} (o : Option X) → o ≡ None → IsSome o → ⊥
no_some None e s = cc
no_some (Some x) e s = cc

no_true : false ≡ true → ⊥
no_true e = cc

or_first : (o p : Option Bytes) → IsSome o → IsSome (option_or o p)
or_first None p s = absurd (no_true s)
or_first (Some x) p s = refl

or_second : (o p : Option Bytes) → IsSome p → IsSome (option_or o p)
or_second None p s = s
or_second (Some x) p s = refl

or_either : (o p : Option Bytes) → IsSome (option_or o p) → IsSome o ⊎ IsSome p
or_either None p s = inr s
or_either (Some x) p s = inl refl

or_none : (o p : Option Bytes) → o ≡ None → p ≡ None → option_or o p ≡ None
or_none None p e f = f
or_none (Some x) p e f = cc

some_first : (w a : Nodes) (h : Hash) → IsSome (map.get w h) → IsSome (map.get (merged w a) h)
some_first w a h s = subst IsSome (sym (get-merged w a h)) (or_first (map.get w h) (map.get a h) s)

some_second : (w a : Nodes) (h : Hash) → IsSome (map.get a h) → IsSome (map.get (merged w a) h)
some_second w a h s = subst IsSome (sym (get-merged w a h)) (or_second (map.get w h) (map.get a h) s)

some_either : (w a : Nodes) (h : Hash) → IsSome (map.get (merged w a) h) → IsSome (map.get w h) ⊎ IsSome (map.get a h)
some_either w a h s = or_either (map.get w h) (map.get a h) (subst IsSome (get-merged w a h) s)

reversed : (r : Ordering) → is_gt r ≡ true → is_gt (ordering_reverse r) ≡ false
reversed Less e = cc
reversed Equal e = cc
reversed Greater e = refl

turned : (x y : Hash) → is_gt (hash_cmp x y) ≡ true → IsLeBy hash_cmp y x
turned x y e = ap is_gt (nat_list_cmp_total.antisymm y x) ∙ reversed (hash_cmp x y) e

le_both : (w a : Nodes) (after : Option Hash) (x : Hash) → ((h : Hash) → IsAfter after h → IsSome (map.get w h) → IsLeBy hash_cmp x h)
    → ((h : Hash) → IsAfter after h → IsSome (map.get a h) → IsLeBy hash_cmp x h)
    → (h : Hash) → IsAfter after h → IsSome (map.get (merged w a) h) → IsLeBy hash_cmp x h
le_both w a after x first second h is some = elim (some_either w a h some) [
  | inl s ↦ first h is s
  | inr s ↦ second h is s
]

pub next_merged : (w a : Nodes) (after x y : Option Hash) → IsNext w after x → IsNext a after y → IsNext (merged w a) after (lesser_of x y)
next_merged w a after None None p q = λ h is. get-merged w a h ∙ or_none (map.get w h) (map.get a h) (p h is) (q h is)
next_merged w a after None (Some y) p q =
    (q.0, some_second w a y q.1, le_both w a after y (λ h is s. absurd (no_some (map.get w h) (p h is) s)) q.2)
next_merged w a after (Some x) None p q =
    (p.0, some_first w a x p.1, le_both w a after x p.2 (λ h is s. absurd (no_some (map.get a h) (q h is) s)))
next_merged w a after (Some x) (Some y) p q =
    elim (is_gt (hash_cmp x y)) as (λ b. is_gt (hash_cmp x y) ≡ b → IsNext (merged w a) after (Some (cond b y x))) [
      | true ↦ λ e. (
        q.0,
        some_second w a y q.1,
        le_both w a after y
            (λ h is s. upto nat_list_cmp_total y x h (turned x y e) (p.2 h is s)) q.2,
      )
      | false ↦ λ e. (p.0, some_first w a x p.1, le_both w a after x p.2 (λ h is s. upto nat_list_cmp_total x y h e (q.2 h is s)))
    ] refl
