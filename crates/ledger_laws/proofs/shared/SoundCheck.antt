-- What is found, and which keys there are, after an entry was put. For proofs of other crates.
use Rattle.std.proofs.Common.{◌≡◌, ◌⊎◌, inl, inr, Bool, true, false, cond}
use Rattle.std.proofs.Common.{[], ◌∷◌, Option, None, Some, All, Contains, refl, sym, ◌∙◌}
use Rattle.std.proofs.Common.{Ordering, Less, Equal, Greater}
use Rattle.std.specs.Ordering.{eq_by_cmp, match_ordering}
use Rattle.std.specs.Map.{keys_of}
use Rattle.std.specs.BTreeMap.{insert_entry}
use Rattle.std.proofs.lemmas.Map.Lookups.{exact_bytes}
use Rattle.std.proofs.lemmas.Map.Views.{All-keys-insert_entry}
use Rattle.std.proofs.lemmas.List.Elements.{All-contains_itself, All-weaker, All-contains}
use Rattle.ledger_spec.specs.Maps.{ForHash, hash_cmp, get_in, insert_in}
use Rattle.ledger_spec.specs.Bytes.{Hash}
use Rattle.ledger_spec.proofs.shared.Growth.{found}
use Rattle.ledger_laws.proofs.shared.SoundForms.{some_same, same_hash}

-- a look-up that an entry ends, or not
first_found : {X : Type 0} (b : Bool) (A : Type 0) (x v : X) (rest : Option X) → (b ≡ true → A) → cond b (Some x) rest ≡ Some v
    → (A × (v ≡ x)) ⊎ (rest ≡ Some v)
first_found true A x v rest here e = inl (here refl, sym (some_same e))
first_found false A x v rest here e = inr e

-- a look-up past an entry that stays
later_found : {X : Type 0} (b : Bool) (A : Type 0) (x v : X) (rest more : Option X) → (more ≡ Some v → A ⊎ (rest ≡ Some v))
    → cond b (Some x) more ≡ Some v
    → A ⊎ (cond b (Some x) rest ≡ Some v)
later_found true A x v rest more later e = inr e
later_found false A x v rest more later e = later e

-- a look-up past an entry whose value changes
changed_found : {X : Type 0} (b : Bool) (A : Type 0) (x y v : X) (rest : Option X) → (b ≡ true → A) → cond b (Some x) rest ≡ Some v
    → (A × (v ≡ x)) ⊎ (cond b (Some y) rest ≡ Some v)
changed_found true A x y v rest here e = inl (here refl, sym (some_same e))
changed_found false A x y v rest here e = inr e

-- what is found after an entry was put is that entry, or was found before
pub get_inserted : {X : Type 0} (m : ForHash X) (k : Hash) (x : X) (q : Hash) (v : X)
    → get_in hash_cmp (insert_in hash_cmp m k x) q ≡ Some v
    → ((q ≡ k) × (v ≡ x)) ⊎ (get_in hash_cmp m q ≡ Some v)
get_inserted {X} [] k x q v found = first_found (eq_by_cmp hash_cmp q k) (q ≡ k) x v None (same_hash q k) found
get_inserted {X} (e ∷ m) k x q v found = at (get_inserted m k x q v) (hash_cmp k e.0) refl found
  where
    at : (get_in hash_cmp (insert_in hash_cmp m k x) q ≡ Some v → ((q ≡ k) × (v ≡ x)) ⊎ (get_in hash_cmp m q ≡ Some v))
        → (r : Ordering) → hash_cmp k e.0 ≡ r → get_in hash_cmp
        (match_ordering r ((k, x) ∷ e ∷ m) ((e.0, x) ∷ m) (e ∷ insert_entry hash_cmp m k x)) q ≡ Some v
        → ((q ≡ k) × (v ≡ x)) ⊎ (get_in hash_cmp (e ∷ m) q ≡ Some v)
    at later Less is found = first_found (eq_by_cmp hash_cmp q k) (q ≡ k) x v (get_in hash_cmp (e ∷ m) q) (same_hash q k) found
    at later Equal is found = changed_found (eq_by_cmp hash_cmp q e.0) (q ≡ k) x e.1 v (get_in hash_cmp m q)
        (λ b. same_hash q e.0 b ∙ sym (exact_bytes k e.0 is)) found
    at later Greater is found = later_found (eq_by_cmp hash_cmp q e.0) ((q ≡ k) × (v ≡ x)) e.1 v (get_in hash_cmp m q)
        (get_in hash_cmp (insert_entry hash_cmp m k x) q) later found

-- a key after an entry was put is its key, or was one before
pub key_inserted : {X : Type 0} (m : ForHash X) (k : Hash) (x : X) (q : Hash) → Contains (keys_of (insert_in hash_cmp m k x)) q
    → (q ≡ k) ⊎ Contains (keys_of m) q
key_inserted m k x q c =
    let P : Hash → Type 0 = λ h. (h ≡ k) ⊎ Contains (keys_of m) h in
    let before : All P (keys_of m) = All-weaker (Contains (keys_of m)) P (λ h i. inr i) (keys_of m) (All-contains_itself (keys_of m)) in
    All-contains P (keys_of (insert_in hash_cmp m k x)) q (All-keys-insert_entry hash_cmp k x P m before (inl refl)) c
