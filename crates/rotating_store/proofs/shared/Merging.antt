-- The one map of two backends. For proofs of other crates.
use Rattle.std.proofs.Common.{◌⊎◌, inl, inr, ◌≡◌, List, [], ◌∷◌, Bool, true, false, not, cond, Option, Some, None, refl}
use Rattle.std.proofs.Common.{sym, ◌∙◌, ap}
use Rattle.std.specs.Prelude.{◌||◌, ◌&&◌, is_some}
use Rattle.std.specs.Option.{option_or}
use Rattle.std.specs.Ordering.{nat_cmp, is_eq, eq_by_cmp}
use Rattle.std.specs.Cmp.Lexicographic.{slice_cmp, nat_list_cmp_total}
use Rattle.std.specs.declared.cmp.Ordering.TheVariants.{Less, Equal, Greater}
use Rattle.std.specs.FinMap as map
use Rattle.std.specs.FinMap.{find, get-insert, get-entries, get_tied, same_map}
use Rattle.std.specs.FinSet as set
use Rattle.std.specs.FinSet.{contains-from_list, contains-insert, contains-difference, same_set}
use Rattle.node_backend.proofs.shared.Tables.{hashes_antisymmetric}
use Rattle.ledger_spec.specs.Maps.{MapOf, hashes_in}
use Rattle.ledger_spec.specs.Bytes.{Bytes, Hash, Nodes}
use Rattle.rotating_store.specs.Stores.{insert_all, merged}

or_cond : (b : Bool) (x : Bytes) (o p : Option Bytes) → cond b (Some x) (option_or o p) ≡ option_or (cond b (Some x) o) p
or_cond true x o p = refl
or_cond false x o p = refl

get-insert_all : (m : Nodes) (es : List (Hash × Bytes)) (q : Hash)
    → map.get (insert_all m es) q ≡ option_or (find (slice_cmp nat_cmp) q es) (map.get m q)
get-insert_all m [] q = refl
get-insert_all m (e ∷ es) q =
    get-insert nat_list_cmp_total (insert_all m es) e.0 e.1 q
    ∙ ap (cond (eq_by_cmp (slice_cmp nat_cmp) q e.0) (Some e.1)) (get-insert_all m es q)
    ∙ or_cond (eq_by_cmp (slice_cmp nat_cmp) q e.0) e.1 (find (slice_cmp nat_cmp) q es) (map.get m q)

pub get-merged : (w a : Nodes) (q : Hash) → map.get (merged w a) q ≡ option_or (map.get w q) (map.get a q)
unfolding merged
get-merged w a q = get-insert_all a (map.entries w) q ∙ ap (λ (o : Option Bytes). option_or o (map.get a q)) (sym (get-entries w q))

pub same_nodes : (m n : Nodes) → ((q : Hash) → map.get m q ≡ map.get n q) → m ≡ n
same_nodes m n h = same_map nat_list_cmp_total hashes_antisymmetric m n h

-- a pair that is put into the writable map is put into the store's
pub merged-insert : (w a : Nodes) (h : Hash) (form : Bytes) → merged (map.insert w h form) a ≡ map.insert (merged w a) h form
merged-insert w a h form = same_nodes _ _ (λ q.
    get-merged (map.insert w h form) a q ∙ ap (λ (o : Option Bytes). option_or o (map.get a q)) (get-insert nat_list_cmp_total w h form q)
    ∙ sym (or_cond (eq_by_cmp (slice_cmp nat_cmp) q h) form (map.get w q) (map.get a q))
    ∙ ap (cond (eq_by_cmp (slice_cmp nat_cmp) q h) (Some form)) (sym (get-merged w a q))
    ∙ sym (get-insert nat_list_cmp_total (merged w a) h form q))

-- to put what is there changes nothing
pub insert_same : (m : Nodes) (h : Hash) (form : Bytes) → map.get m h ≡ Some form → map.insert m h form ≡ m
insert_same m h form is = same_nodes _ _ (λ q.
    get-insert nat_list_cmp_total m h form q
    ∙ elim (slice_cmp nat_cmp q h) as (λ r. slice_cmp nat_cmp q h ≡ r → cond (is_eq r) (Some form) (map.get m q) ≡ map.get m q) [
      | Less ↦ λ e. refl
      | Equal ↦ λ e. sym (sym (get_tied nat_list_cmp_total m q h e) ∙ is)
      | Greater ↦ λ e. refl
    ] refl)

-- what is copied forward leaves the store's map
pub forward_keeps : (w a : Nodes) (h : Hash) (form : Bytes) → map.get w h ≡ None → map.get a h ≡ Some form
    → merged (map.insert w h form) a ≡ merged w a
forward_keeps w a h form none some =
    merged-insert w a h form ∙ insert_same (merged w a) h form
    (get-merged w a h ∙ ap (λ (o : Option Bytes). option_or o (map.get a h)) none ∙ some)

-- what a swap leaves: the writable pairs alone
pub merged_empty : (w : Nodes) → merged map.empty w ≡ w
merged_empty w = same_nodes _ _ (λ q. get-merged map.empty w q
    ∙ ap (λ (o : Option Bytes). option_or o (map.get w q)) (map.get-empty (slice_cmp nat_cmp) q))

pub found_first : (w a : Nodes) (h : Hash) (o : Option Bytes) (form : Bytes) → o ≡ map.get w h → o ≡ Some form
    → Some form ≡ map.get (merged w a) h
found_first w a h o form is some = sym (get-merged w a h ∙ ap (λ (x : Option Bytes). option_or x (map.get a h)) (sym is ∙ some))

pub found_second : (w a : Nodes) (h : Hash) (n o : Option Bytes) → n ≡ map.get w h → n ≡ None → o ≡ map.get a h
    → o ≡ map.get (merged w a) h
found_second w a h n o is none at = at ∙ sym (get-merged w a h ∙ ap (λ (x : Option Bytes). option_or x (map.get a h)) (sym is ∙ none))

some_or : {X : Type 0} (b : Bool) (x : X) (o : Option X) → is_some (cond b (Some x) o) ≡ (b || is_some o)
some_or true x o = refl
some_or false x o = refl

-- the keys' set has what the map has
pub contains_hashes : {X : Type 0} (m : MapOf X) (q : Hash) → set.contains (hashes_in m) q ≡ map.contains_key m q
contains_hashes m q = contains-from_list nat_list_cmp_total (map.keys m) q ∙ sym (map.contains_key-keys m q)

no_or : (o p : Option Bytes) → option_or o p ≡ None → p ≡ None
no_or None p e = e
no_or (Some x) p e = absurd (no_some e)
  where
    no_some : {y : Bytes} → Some y ≡ None → ⊥
    no_some e = cc

none_second : (w a : Nodes) (h : Hash) → map.get (merged w a) h ≡ None → map.get a h ≡ None
none_second w a h none = no_or (map.get w h) (map.get a h) (sym (get-merged w a h) ∙ none)

-- a new pair is born
pub born_put : (w a : Nodes) (h : Hash) (form : Bytes) → map.get (merged w a) h ≡ None
    → set.difference (hashes_in (map.insert w h form)) (hashes_in a) ≡ set.insert (set.difference (hashes_in w) (hashes_in a)) h
born_put w a h form none =
    same_set nat_list_cmp_total hashes_antisymmetric _ _ (λ q.
    contains-difference nat_list_cmp_total _ _ q
    ∙ ap (λ (b : Bool). b && not (set.contains (hashes_in a) q))
    (contains_hashes (map.insert w h form) q ∙ ap is_some (get-insert nat_list_cmp_total w h form q)
    ∙ some_or (eq_by_cmp (slice_cmp nat_cmp) q h) form (map.get w q))
    ∙ elim (slice_cmp nat_cmp q h) as (λ r. slice_cmp nat_cmp q h ≡ r
    → ((is_eq r || is_some (map.get w q)) && not (set.contains (hashes_in a) q))
    ≡ (is_eq r || (is_some (map.get w q) && not (set.contains (hashes_in a) q)))) [
      | Less ↦ λ e. refl
      | Equal ↦ λ e. ap not (contains_hashes a q ∙ ap is_some (sym (get_tied nat_list_cmp_total a q h e) ∙ none_second w a h none))
      | Greater ↦ λ e. refl
    ] refl
    ∙ ap (λ (b : Bool). eq_by_cmp (slice_cmp nat_cmp) q h || (b && not (set.contains (hashes_in a) q))) (sym (contains_hashes w q))
    ∙ ap (λ (b : Bool). eq_by_cmp (slice_cmp nat_cmp) q h || b) (sym (contains-difference nat_list_cmp_total _ _ q))
    ∙ sym (contains-insert nat_list_cmp_total _ h q))

-- what a swap leaves was there, and is of the archive or born in the epoch
pub swap_fewer : (w a : Nodes) (h : Hash) (form : Bytes) → map.get w h ≡ Some form → map.get (merged w a) h ≡ Some form
swap_fewer w a h form is = get-merged w a h ∙ ap (λ (x : Option Bytes). option_or x (map.get a h)) is

pub swap_only : (w a : Nodes) (h : Hash) (form : Bytes) → map.get w h ≡ Some form → (is_some (map.get a h) ≡ true)
    ⊎ (set.contains (set.difference (hashes_in w) (hashes_in a)) h ≡ true)
swap_only w a h form is =
    elim (is_some (map.get a h)) as (λ b. is_some (map.get a h) ≡ b → (b ≡ true)
    ⊎ (set.contains (set.difference (hashes_in w) (hashes_in a)) h ≡ true)) [
      | true ↦ λ e. inl refl
      | false ↦ λ e. inr (contains-difference nat_list_cmp_total _ _ h
          ∙ ap (λ (b : Bool). b && not (set.contains (hashes_in a) h)) (contains_hashes w h ∙ ap is_some is)
          ∙ ap not (contains_hashes a h ∙ e))
    ] refl
