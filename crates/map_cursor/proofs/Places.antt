-- One place of a visit: whether it is skipped, and what a node there says.
use Rattle.std.proofs.Common.{◌≡◌, inl, inr, ◌&&◌, ℕ, zero, suc, Bool, true, false, is_none, List, [], ◌∷◌, ◌++◌}
use Rattle.std.proofs.Common.{IsTrue, Option, None, Some, refl, sym, ap, ◌∙◌, subst}
use Rattle.std.proofs.lemmas.Bool.{cond-true, cond-false, and_from}
use Rattle.std.proofs.lemmas.Slice.Eq.{bytes_eq-Decides}
use Rattle.std.specs.List.{range_with_len, slice_index_or, AllByRecursion}
use Rattle.ledger_spec.specs.declared.Kind.{Kind}
use Rattle.ledger_spec.specs.declared.ShapeFault.{ShapeFault}
use Rattle.ledger_spec.specs.declared.ShapeFault.TheVariants.{Foreign}
use Rattle.ledger_spec.specs.Bytes.{Hash, Half, Lookup, zero_hash, branches, same_bytes}
use Rattle.ledger_spec.specs.Forms.{Held, inner, leaf, header, hash_of}
use Rattle.ledger_spec.specs.Rules.{fault_of}
use Rattle.ledger_spec.specs.Reads.{inner_hashes}
use Rattle.ledger_spec.specs.Pages.{said, wants, Reading, in_turn, said_by, is_skipped, page_from}
use Rattle.ledger_spec.specs.Pages.{IsStoredNode}
use Rattle.path_proof.specs.declared.answer.ReadFault.{ReadFault}
use Rattle.path_proof.specs.declared.answer.ReadFault.TheVariants.{Absent, Fault, Shape, Memory}
use Rattle.path_proof.specs.Sources.{AreHeld, Holds, IsForeign}
use Rattle.path_proof.specs.Ways.{Fits, Breaks, Ends}
use Rattle.shamap_node.specs.Nodes.{held}
use Rattle.map_cursor.specs.Shown.{added_by}
use Rattle.map_cursor.specs.Visits.{branch_reading}

-- what is read of a place, by the nodes that come next
pub skipped : (half : Half) (kind : Kind) (after : Hash) (l : ℕ) (p : Option (List Hash)) (path : List ℕ) (h : Hash) (n : ℕ)
    (rest : List Held) → is_skipped after path h n ≡ true → page_from half kind after l p path h n rest ≡ said [] rest
unfolding page_from
skipped half kind after zero p path h n rest is = cond-true (is_skipped after path h n) _ _ is
skipped half kind after (suc l) p path h n rest is = cond-true (is_skipped after path h n) _ _ is

pub wanted : (half : Half) (kind : Kind) (after : Hash) (l : ℕ) (p : Option (List Hash)) (path : List ℕ) (h : Hash) (n : ℕ)
    → is_skipped after path h n ≡ false → page_from half kind after l p path h n [] ≡ wants p path h
unfolding page_from
wanted half kind after zero p path h n is = cond-false (is_skipped after path h n) _ _ is
wanted half kind after (suc l) p path h n is = cond-false (is_skipped after path h n) _ _ is

passes : (half : Half) (kind : Kind) (p : Option (List Hash)) (path : List ℕ) (h : Hash) (x : Held) → Fits half kind p path h x
    → (same_bytes (hash_of half x) h && is_none (fault_of x p kind path)) ≡ true
passes half kind p path h x fits = and_from _ _ ((bytes_eq-Decides (hash_of half x) h).1 fits.hash) (ap is_none fits.rules)

-- a node that is no inner one says its entry
no_inner : (half : Half) (kind : Kind) (after : Hash) (p : Option (List Hash)) (path : List ℕ) (h : Hash) (x : Held)
    (below : List Hash → Reading) (n : ℕ) (rest : List Held) → Fits half kind p path h x → None ≡ inner_hashes x
    → said_by after below x n rest ≡ said (added_by after x) rest
no_inner half kind after p path h (leaf own key bytes) below n rest fits none = refl
no_inner half kind after p path h (inner hashes) below n rest fits none = let no : None ≡ Some hashes = none in cc
no_inner half kind after p path h (header bytes) below n rest fits none = let no : Some Foreign ≡ None = fits.rules in cc

pub leaf_said : (half : Half) (kind : Kind) (after : Hash) (l : ℕ) (p : Option (List Hash)) (path : List ℕ) (h : Hash) (n : ℕ) (x : Held)
    (rest : List Held) → is_skipped after path h n ≡ false → Fits half kind p path h x
    → None ≡ inner_hashes x → page_from half kind after l p path h n (x ∷ rest) ≡ said (added_by after x) rest
unfolding page_from
leaf_said half kind after zero p path h n x rest is fits none =
    cond-false (is_skipped after path h n) _ _ is ∙ cond-true _ _ _ (passes half kind p path h x fits)
    ∙ no_inner half kind after p path h x _ n rest fits none
leaf_said half kind after (suc l) p path h n x rest is fits none =
    cond-false (is_skipped after path h n) _ _ is ∙ cond-true _ _ _ (passes half kind p path h x fits)
    ∙ no_inner half kind after p path h x _ n rest fits none

-- an inner node says what is said below it
is_inner : (after : Hash) (x : Held) (hashes : List Hash) (below : List Hash → Reading) (n : ℕ) (rest : List Held)
    → Some hashes ≡ inner_hashes x → said_by after below x n rest ≡ below hashes n rest
is_inner after (inner own) hashes below n rest e = let same : own ≡ hashes = cc in ap (λ l. below l n rest) same
is_inner after (leaf k key bytes) hashes below n rest e = let no : Some hashes ≡ None = e in cc
is_inner after (header bytes) hashes below n rest e = let no : Some hashes ≡ None = e in cc

pub inner_said : (half : Half) (kind : Kind) (after : Hash) (l : ℕ) (p : Option (List Hash)) (path : List ℕ) (h : Hash) (n : ℕ) (x : Held)
    (hashes : List Hash) (rest : List Held) → is_skipped after path h n ≡ false
    → Fits half kind p path h x → Some hashes ≡ inner_hashes x
    → page_from half kind after (suc l) p path h n (x ∷ rest)
    ≡ in_turn (branch_reading half kind after l hashes path) (range_with_len 0 16) n rest
unfolding page_from
inner_said half kind after l p path h n x hashes rest is fits e =
    cond-false (is_skipped after path h n) _ _ is ∙ cond-true _ _ _ (passes half kind p path h x fits)
    ∙ is_inner after x hashes
    (λ hs. in_turn (λ b. page_from half kind after l (Some hs) (path ++ b ∷ []) (slice_index_or hs b zero_hash)) branches) n rest e

pub no_items : (after : Hash) (x : Held) (hashes : List Hash) → Some hashes ≡ inner_hashes x → added_by after x ≡ []
no_items after (inner own) hashes e = refl
no_items after (leaf k key bytes) hashes e = let no : Some hashes ≡ None = e in cc
no_items after (header bytes) hashes e = refl

pub stored_node : (half : Half) (nodes : Lookup) (h : Hash) (x : Held) → hash_of half x ≡ h → Holds half (nodes h) x → IsStoredNode half nodes x
stored_node half nodes h x is holds = record { stored = ap nodes is ∙ holds.0; held = holds.1 }

-- what is told later is what was told before
pub held_then : (half : Half) (tells : Bool) (nodes now : Lookup) (used : List Held) → (IsTrue tells → now ≡ nodes)
    → AreHeld half tells now used → AreHeld half tells nodes used
held_then half tells nodes now used same held told = subst (λ f. AllByRecursion (IsStoredNode half f) used) (same told) (held told)

breaks_then : (half : Half) (kind : Kind) (tells : Bool) (nodes now : Lookup) (p : Option (List Hash)) (path : List ℕ) (h : Hash)
    (rule : ShapeFault) → (IsTrue tells → now ≡ nodes)
    → Breaks half kind tells now p path h rule → Breaks half kind tells nodes p path h rule
breaks_then half kind tells nodes now p path h rule same (inl (n, is, fault, holds)) =
    inl (n, is, fault, λ told. subst (λ (f : Lookup). Holds half (f h) n) (same told) (holds told))
breaks_then half kind tells nodes now p path h rule same (inr (is, foreign)) =
    inr (is, λ told. subst (λ (f : Lookup). IsForeign half (f h)) (same told) (foreign told))

pub ends_then : (half : Half) (kind : Kind) (tells : Bool) (nodes now : Lookup) (p : Option (List Hash)) (path : List ℕ) (h : Hash)
    (fault : ReadFault) → (IsTrue tells → now ≡ nodes)
    → Ends half kind tells now p path h fault → Ends half kind tells nodes p path h fault
ends_then half kind tells nodes now p path h (Absent g) same ends =
    (ends.0, λ told. sym (ap (λ (f : Lookup). f g) (same told)) ∙ ends.1 told)
ends_then half kind tells nodes now p path h (Shape place rule) same ends =
    (ends.0, breaks_then half kind tells nodes now p path h rule same ends.1)
ends_then half kind tells nodes now p path h Fault same ends = tt
ends_then half kind tells nodes now p path h Memory same ends = tt
