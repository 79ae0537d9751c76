-- What a set finds of hashes, and through a change.
use Rattle.std.proofs.Common.{◌≡◌, ◌∙◌, inl, inr, List, [], ◌∷◌, ◌++◌, Bool, true, false, cond, Result, Ok, Err, OnOk, refl, sym, ap, subst}
use Rattle.std.specs.Prelude.{MatchBool, IsTrue, ◌↔◌}
use Rattle.std.specs.Result.{is_err}
use Rattle.std.specs.List.{Contains, list_any}
use Rattle.std.specs.HashSet.{HashSet, contains}
use Rattle.std.specs.Cmp.{eq_by_cmp_equiv}
use Rattle.std.specs.Cmp.Lexicographic.{nat_list_cmp_total, same_text, texts_ties}
use Rattle.std.proofs.lemmas.List.Elements.{Contains-append_left, Contains-push, Contains-push_cases}
use Rattle.ledger_spec.specs.Bytes.{Hash, same_bytes}
use Rattle.script_form.specs.Finding.{Finds}

pub at_ok : {T E P : Type 0} (r : Result T E) → is_err r ≡ false → OnOk r P → P
at_ok (Ok x) e h = h
at_ok (Err y) e h = absurd (cc)

-- looking a hash up tells whether it is one of them
pub tells : {S : Type 0} (set : HashSet Hash S) (hashes : List Hash) (h : Hash) (r : Bool) → Finds set hashes
    → r ≡ contains same_bytes set h → MatchBool r (Contains hashes h) (Contains hashes h → ⊥)
tells set hashes h true finds is = (finds.found h).0 (sym is)
tells set hashes h false finds is = λ among. let yes : contains same_bytes set h ≡ true = (finds.found h).1 among in cc

-- one hash more
module _ {S : Type 0} (old new : HashSet Hash S) (hashes : List Hash) (h : Hash)
    (sets : (q : Hash) → contains same_bytes new q ≡ cond (same_bytes h q) true (contains same_bytes old q))
    (finds : Finds old hashes) where
  there : (q : Hash) (b : Bool) → same_bytes h q ≡ b → cond b true (contains same_bytes old q) ≡ true → Contains (hashes ++ h ∷ []) q
  there q true e has =
      let same : h ≡ q = same_text h q (sym e) in
      subst (λ (x : Hash). Contains (hashes ++ h ∷ []) x) same (Contains-push hashes h)
  there q false e has = Contains-append_left hashes (h ∷ []) q ((finds.found q).0 has)

  before : (q : Hash) (b : Bool) → contains same_bytes old q ≡ true → cond b true (contains same_bytes old q) ≡ true
  before q true has = refl
  before q false has = has

  back : (q : Hash) → Contains (hashes ++ h ∷ []) q → contains same_bytes new q ≡ true
  back q is = elim (Contains-push_cases hashes h q is) [
    | inl old_one ↦ sets q ∙ before q (same_bytes h q) ((finds.found q).1 old_one)
    | inr same ↦
        let here : contains same_bytes new h ≡ true =
        sets h ∙ ap (λ (b : Bool). cond b true (contains same_bytes old h))
        (texts_ties h h ∙ (eq_by_cmp_equiv nat_list_cmp_total).refl h) in
        subst (λ (x : Hash). contains same_bytes new x ≡ true) same here
  ]

  pub one_more : Finds new (hashes ++ h ∷ [])
  one_more = record { found = λ q. (λ has. there q (same_bytes h q) refl (sym (sets q) ∙ has), back q) }

-- a set with the same keys finds the same
pub finds_same : {S : Type 0} (old new : HashSet Hash S) (hashes : List Hash) → new.keys ≡ old.keys → Finds old hashes → Finds new hashes
finds_same old new hashes same finds = record {
  found = λ q. subst (λ (ks : List Hash). IsTrue (list_any (same_bytes q) ks) ↔ Contains hashes q) (sym same) (finds.found q);
}
