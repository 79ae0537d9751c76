-- The hashes of a list, as the keys of a table into which each is put.
use Rattle.std.proofs.Common.{◌≡◌, ◌⊎◌, inl, inr, ⊎_elim, ◌↔◌, ◌≤◌, ◌<◌, ◌++◌, ℕ, List, [], ◌∷◌, Option, Some, None, Contains}
use Rattle.std.proofs.Common.{Result, Ok, Err, IfOk, Bool, map, refl, sym, ap, ◌∙◌, subst, arith, IsTrue, IsSomeAnd}
use Rattle.std.specs.Option.{IsSome}
use Rattle.std.specs.Map.{keys_of, values_of}
use Rattle.std.specs.Ordering.{match_ordering}
use Rattle.std.specs.declared.cmp.Ordering.{Ordering}
use Rattle.std.specs.declared.cmp.Ordering.TheVariants.{Less, Equal, Greater}
use Rattle.std.specs.Cmp.Lexicographic.{nat_list_cmp_total}
use Rattle.std.proofs.lemmas.Map.Lookups.{exact_bytes}
use Rattle.std.proofs.lemmas.Map.Views.{tells_apart, Contains-keys_from_lookup, IsSome-lookup_from_Contains}
use Rattle.std.specs.Cmp.{eq_by_cmp_equiv}
use Rattle.std.proofs.lemmas.List.Elements.{Contains-append_cases, Contains-append_left, Contains-append_right, Contains-push_cases}
use Rattle.ledger_spec.specs.Maps.{ForHash, ForActor, IsMap, hash_cmp, get_in, has_in, insert_in}
use Rattle.ledger_spec.specs.Bytes.{Hash, Half}
use Rattle.ledger_spec.specs.Retaining.{Retention, is_pinned, AreRootsFrom}
use Rattle.ledger_laws.proofs.shared.SoundCheck.{key_inserted}
use Rattle.ledger_laws.proofs.shared.SoundForms.{in_head, in_tail}
use Rattle.ledger_machine.specs.State.{State, retained}
use Rattle.edit_session.specs.Drafts.{Draft}
use Rattle.core_machine.specs.Machines.{with_open}
use Rattle.core_machine.specs.Retaining.{AreRising, AreRetained, HaveKeys}
use Rattle.core_machine.proofs.Rotations.{bases_open}
use Rattle.core_machine.proofs.Retold.{key_in}

-- no hash is in an empty list
no_key : (h : Hash) → Contains {X = Hash} [] h → ⊥
no_key h c = let lt : c.0 < 0 = c.1 in absurd (omega (arith, lt))

-- a hash of a list is its first or one of the others
first_or : (x h : Hash) (xs : List Hash) → Contains (x ∷ xs) h → (x ≡ h) ⊎ Contains xs h
first_or x h xs c = ⊎_elim (λ one. ⊎_elim (λ none. absurd (no_key h none)) (λ same. inl same) (Contains-push_cases [] x h one)) (λ more.
    inr more)
    (Contains-append_cases (x ∷ []) xs h c)

-- the keys from before an entry was put are there
key_stays : {X : Type 0} (m : ForHash X) (k : Hash) (x : X) (h : Hash) → Contains (keys_of m) h → Contains (keys_of (insert_in hash_cmp m
    k x)) h
key_stays [] k x h c = absurd (no_key h c)
key_stays {X} (e ∷ m) k x h c = at (hash_cmp k e.0) (key_stays m k x h)
  where
    at : (o : Ordering) → (Contains (keys_of m) h → Contains (keys_of (insert_in hash_cmp m k x)) h)
        → Contains (keys_of (match_ordering o ((k, x) ∷ e ∷ m) ((e.0, x) ∷ m) (e ∷ insert_in hash_cmp m k x))) h
    at Less rest = in_tail k h (keys_of (e ∷ m)) c
    at Equal rest = c
    at Greater rest = ⊎_elim (λ same. subst (λ (q : Hash). Contains (q ∷ keys_of (insert_in hash_cmp m k x)) h) (sym same) (in_head h
        (keys_of (insert_in hash_cmp m k x))))
        (λ more. in_tail e.0 h (keys_of (insert_in hash_cmp m k x)) (rest more)) (first_or e.0 h (keys_of m) c)

-- one more hash of the list, and one more key
pub keys_more : {X : Type 0} (m : ForHash X) (k : Hash) (x : X) (seen : List Hash) → HaveKeys m seen → HaveKeys (insert_in hash_cmp m k x)
    (seen ++ k ∷ [])
keys_more m k x seen has h = (
  λ c. ⊎_elim (λ same. Contains-append_right seen (k ∷ []) h (subst (λ (q : Hash). Contains (k ∷ []) q) (sym same) (in_head k [])))
      (λ old. Contains-append_left seen (k ∷ []) h ((has h).0 old)) (key_inserted m k x h c),
  λ c. ⊎_elim (λ old. key_stays m k x h ((has h).1 old)) (λ same. subst (λ (q : Hash). Contains (keys_of (insert_in hash_cmp m k x)) q)
      same (key_in m k x))
      (Contains-push_cases seen k h c),
)

-- where no ledger is pinned, the roots from the first sequence on are those that are listed
not_pinned : (b : Retention) (h : Hash) → b.pins ≡ [] → IsTrue (is_pinned b h) → ⊥
not_pinned b h none pinned = no_pin (subst (λ (m : ForHash ℕ). IsTrue (has_in hash_cmp m h)) none pinned)
  where
    no_pin : IsTrue (has_in {K = Hash} {X = ℕ} hash_cmp [] h) → ⊥
    no_pin e = absurd (cc)

some_of : (o : Option ℕ) → IsSomeAnd o (λ seq. 0 ≤ seq) → IsSome o
some_of None is = absurd is
some_of (Some seq) is = refl

of_some : (o : Option ℕ) → IsSome o → IsSomeAnd o (λ seq. 0 ≤ seq)
of_some None is = absurd (cc)
of_some (Some seq) is = omega arith

pub listed_roots : (b : Retention) (hashes : List Hash) → b.pins ≡ [] → AreRootsFrom b 0 hashes → HaveKeys b.listed hashes
listed_roots b hashes none are h = (
  λ c. (are.all h).1 (inr (of_some (get_in hash_cmp b.listed h) (IsSome-lookup_from_Contains (eq_by_cmp_equiv nat_list_cmp_total) h
      b.listed c))),
  λ c. ⊎_elim (λ pinned. absurd (not_pinned b h none pinned))
      (λ some. Contains-keys_from_lookup (tells_apart exact_bytes) h b.listed (some_of (get_in hash_cmp b.listed h) some)) ((are.all h).0
      c),
)

-- behind the same hashes in another order stand the same ones
pub same_front : (a b more : List Hash) → ((h : Hash) → Contains a h ↔ Contains b h) → (h : Hash) → Contains (a ++ more) h → Contains (b
    ++ more) h
same_front a b more same h c =
    ⊎_elim (λ front. Contains-append_left b more h ((same h).0 front)) (λ rest. Contains-append_right b more h rest)
    (Contains-append_cases a more h c)

-- what has the keys of a table, of which each is a hash of the list and the other way, has these hashes, rising
pub are_rising : {X V E : Type 0} (m : ForHash X) (hashes : List Hash) (r : Result V E) (items : V → List Hash) → HaveKeys m hashes
    → IfOk r (λ v. items v ≡ keys_of m) → IsMap hash_cmp m → IfOk r (λ v. AreRising hashes (items v))
are_rising m hashes (Err e) items has is rise = tt
are_rising m hashes (Ok v) items has is rise =
    subst (λ (ks : List Hash). AreRising hashes ks) (sym is) (record { all = has; rise = rise })

-- what the machine lists and its views pin, and what the drafts beside it edit, is what the state with these sessions retains
pub retained_as : {V E : Type 0} (half : Half) (tells : Bool) (s : State) (drafts : ForActor Draft) (listed hashes bs : List Hash)
    (r : Result V E) (items : V → List Hash) → HaveKeys s.listed listed → hashes ≡ listed ++ values_of s.views ++ bs
    → bs ≡ map (λ (d : Draft). d.base) (values_of drafts) → IfOk r (λ v. AreRising hashes (items v))
    → IfOk r (λ v. AreRetained (with_open half tells s drafts) (items v))
retained_as half tells s drafts listed hashes bs (Err e) items has is edited rising = tt
retained_as half tells s drafts listed hashes bs (Ok v) items has is edited rising =
    let keys : List Hash = keys_of s.listed in
    let views : List Hash = values_of s.views in
    let more : List Hash = map (λ (d : Draft). d.base) (values_of drafts) in
    let all : retained (with_open half tells s drafts) ≡ keys ++ views ++ more =
    ap (λ (hs : List Hash). keys ++ views ++ hs) (bases_open half tells s drafts)
    in
    let here : hashes ≡ listed ++ views ++ more = is ∙ ap (λ (hs : List Hash). listed ++ views ++ hs) edited in
    let to = same_front (listed ++ views) (keys ++ views) more
    (λ k. (same_front listed keys views (λ q. ((has q).1, (has q).0)) k, same_front keys listed views has k)) in
    let from = same_front (keys ++ views) (listed ++ views) more
    (λ k. (same_front keys listed views has k, same_front listed keys views (λ q. ((has q).1, (has q).0)) k)) in
    record {
      all = λ h. (
        λ c. subst (λ (hs : List Hash). Contains hs h) (sym all) (to h (subst (λ (hs : List Hash). Contains hs h) here ((rising.all h).0
            c))),
        λ c. (rising.all h).1 (subst (λ (hs : List Hash). Contains hs h) (sym here) (from h (subst (λ (hs : List Hash). Contains hs h) all
            c))),
      );
      rise = rising.rise;
    }
