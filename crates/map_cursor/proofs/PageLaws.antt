-- What a visit from the root comes to.
use Rattle.std.proofs.Common.{◌≡◌, ◌-◌, List, [], ◌++◌, length, ℕ, Bool, IsTrue, None, Result, Ok, Err, IfOk, IfErr, IsErr, IsErrAnd}
use Rattle.std.proofs.Common.{sym, ap, ◌∙◌, subst, arith}
use Rattle.std.proofs.lemmas.List.{append-nil}
use Rattle.std.specs.List.{AllByRecursion}
use Rattle.ledger_spec.specs.declared.Kind.{Kind}
use Rattle.ledger_spec.specs.Bytes.{Hash, Half, Lookup}
use Rattle.ledger_spec.specs.Findings.{items_of}
use Rattle.ledger_spec.specs.Reads.{IsKey, AreNodes}
use Rattle.ledger_spec.specs.Pages.{said, page_from, heard_from, after_key, IsPageOf, IsPageOrShows, IsStoredNode}
use Rattle.tree_laws.proofs.shared.Trees.{Sized}
use Rattle.tree_laws.proofs.shared.MapPages.{page_or_shows}
use Rattle.tree_laws.proofs.shared.StorePages.{page_of_store}
use Rattle.path_proof.proofs.shared.PathLaws.{nodes_are}
use Rattle.path_proof.specs.Paths.{held_nodes}
use Rattle.path_proof.specs.declared.answer.ReadFault.{ReadFault}
use Rattle.map_cursor.specs.declared.paging.Page.{Page}
use Rattle.map_cursor.specs.Shown.{HasFurther, Shown, items_in}
use Rattle.path_proof.specs.Sources.{AreHeld}
use Rattle.map_cursor.specs.Visits.{AreOfMaps, TellsPage, Visited, Refused}

pub is_page : (half : Half) (kind : Kind) (root after : Hash) (tells : Bool) (nodes : Lookup) (n : ℕ) (s t : Shown) → s.items ≡ []
    → s.used ≡ [] → Visited half tells nodes (page_from half kind after 64 None [] root) n s t
    → IsPageOf half kind root after n t.used t.items
unfolding heard_from
is_page half kind root after tells nodes n s t no_items no_used v =
    let all : n - length s.items ≡ n = omega (arith, ap length no_items) in
    let used : v.more ++ [] ≡ t.used = append-nil v.more ∙ sym (v.used_are ∙ ap (λ l. l ++ v.more) no_used) in
    let items : v.items ≡ t.items = sym (v.items_are ∙ ap (λ l. l ++ v.items) no_items) in
    ap (λ l. page_from half kind after 64 None [] root n l) (sym used)
    ∙ ap (λ m. page_from half kind after 64 None [] root m (v.more ++ [])) (sym all) ∙ v.heard [] ∙ ap (λ i. said i []) items

pub are_held : (half : Half) (kind : Kind) (root after : Hash) (tells : Bool) (nodes : Lookup) (n : ℕ) (s t : Shown) → s.used ≡ []
    → Visited half tells nodes (page_from half kind after 64 None [] root) n s t
    → AreHeld half tells nodes t.used
are_held half kind root after tells nodes n s t no_used v told =
    subst (AllByRecursion (IsStoredNode half nodes)) (sym (v.used_are ∙ ap (λ l. l ++ v.more) no_used)) (v.stored told)

pub is_refused : (half : Half) (kind : Kind) (root after : Hash) (tells : Bool) (nodes : Lookup) (n : ℕ) (s : Shown) (fault : ReadFault)
    → s.items ≡ [] → Refused half kind tells nodes (page_from half kind after 64 None [] root) (n - length s.items) fault
    → Refused half kind tells nodes (heard_from half kind root after) n fault
unfolding heard_from
is_refused half kind root after tells nodes n s fault no_items r =
    let all : n - length s.items ≡ n = omega (arith, ap length no_items) in
    subst (λ m. Refused half kind tells nodes (page_from half kind after 64 None [] root) m fault) all r

law_of_page : (half : Half) → Sized half → (kind : Kind) (root after : Hash) (n : ℕ) (result : Result Page ReadFault) → IsKey after
    → IfOk result (λ p. IsPageOf half kind root after n (held_nodes p.used.items) (items_in p.leaves.items))
    → IfOk result (λ p. AreNodes half kind (held_nodes p.used.items)
    → IsPageOrShows half kind root after n (held_nodes p.used.items) (items_in p.leaves.items))
law_of_page half sized kind root after n (Ok p) is_key is =
    λ nodes. page_or_shows half sized kind root after n (held_nodes p.used.items) (items_in p.leaves.items) is_key nodes is
law_of_page half sized kind root after n (Err _) is_key is = tt

-- nodes of the code are such nodes, sets apart
pub page_of_maps : (half : Half) → Sized half → (kind : Kind) (root after : Hash) (n : ℕ) (result : Result Page ReadFault) → IsKey after
    → IfOk result (λ p. IsPageOf half kind root after n (held_nodes p.used.items) (items_in p.leaves.items))
    → IfOk result (λ p. AreOfMaps half kind root after n (held_nodes p.used.items) (items_in p.leaves.items))
page_of_maps half sized kind root after n (Ok p) is_key is =
    let law = law_of_page half sized kind root after n (Ok p) is_key is in
    record { law = λ other. law (nodes_are half kind other p.used.items); sets = law }
page_of_maps half sized kind root after n (Err _) is_key is = tt

pub own_page : (half : Half) (kind : Kind) (root after : Hash) (n : ℕ) (tells : Bool) (nodes : Lookup) (result : Result Page ReadFault)
    → IsKey after
    → IfOk result (λ p. IsPageOf half kind root after n (held_nodes p.used.items) (items_in p.leaves.items))
    → IfOk result (λ p. AreHeld half tells nodes (held_nodes p.used.items))
    → IfOk result (λ p. IsTrue tells → items_in p.leaves.items ≡ after_key after n (items_of half nodes kind root))
own_page half kind root after n tells nodes (Ok p) is_key is held =
    λ told. page_of_store half nodes kind root after is_key n (held_nodes p.used.items) (items_in p.leaves.items) (held told) is
own_page half kind root after n tells nodes (Err _) is_key is held = tt

-- what a page tells, of what its reading promises
pub tells_page : (half : Half) → Sized half → (kind : Kind) (root after : Hash) (n : ℕ) (tells : Bool) (nodes : Lookup)
    (result : Result Page ReadFault) → IsKey after
    → IfOk result (λ p. IsPageOf half kind root after n (held_nodes p.used.items) (items_in p.leaves.items))
    → IfOk result (HasFurther after) → IfOk result (λ p. AreHeld half tells nodes (held_nodes p.used.items))
    → IfOk result (TellsPage half kind root after n tells nodes)
tells_page half sized kind root after n tells nodes (Ok p) is_key page leaves held = record {
  page = page;
  leaves = leaves;
  held = held;
  own = own_page half kind root after n tells nodes (Ok p) is_key page held;
  maps = page_of_maps half sized kind root after n (Ok p) is_key page;
}
tells_page half sized kind root after n tells nodes (Err _) is_key page leaves held = tt

pub refused_on : {X : Type 0} (half : Half) (kind : Kind) (root after : Hash) (tells : Bool) (nodes : Lookup) (n : ℕ) (s : Shown)
    (r : Result X ReadFault) (e : ReadFault) → IsErr r × IsErrAnd r (λ f. f ≡ e) → s.items ≡ []
    → Refused half kind tells nodes (page_from half kind after 64 None [] root) (n - length s.items) e
    → IfErr r (Refused half kind tells nodes (heard_from half kind root after) n)
refused_on half kind root after tells nodes n s (Ok x) e gives no_items refused = tt
refused_on half kind root after tells nodes n s (Err f) e gives no_items refused =
    subst (Refused half kind tells nodes (heard_from half kind root after) n) (sym gives.1)
    (is_refused half kind root after tells nodes n s e no_items refused)

-- the root's place
pub at_root : (half : Half) (kind : Kind) (root after : Hash) (tells : Bool) (nodes : Lookup) (n : ℕ) (s t : Shown) (path : List ℕ)
    → path ≡ []
    → Visited half tells nodes (page_from half kind after (64 - length path) None path root) n s t
    → Visited half tells nodes (page_from half kind after 64 None [] root) n s t
at_root half kind root after tells nodes n s t path e v =
    subst (λ (p : List ℕ). Visited half tells nodes (page_from half kind after (64 - length p) None p root) n s t) e v

pub refused_at_root : (half : Half) (kind : Kind) (root after : Hash) (tells : Bool) (nodes : Lookup) (n : ℕ) (fault : ReadFault)
    (path : List ℕ) → path ≡ []
    → Refused half kind tells nodes (page_from half kind after (64 - length path) None path root) n fault
    → Refused half kind tells nodes (page_from half kind after 64 None [] root) n fault
refused_at_root half kind root after tells nodes n fault path e v =
    subst (λ (p : List ℕ). Refused half kind tells nodes (page_from half kind after (64 - length p) None p root) n fault) e v
