-- What is stored of what peers offer are forms of bytes under their own hashes, which aren't zero. For proofs of other crates.
use Rattle.std.proofs.Common.{◌≡◌, ⊎_elim, ℕ, ◌<◌, Bool, true, false, not, if◌then◌else◌, ◌==◌, List, [], ◌∷◌, ◌++◌, length, Option, None}
use Rattle.std.proofs.Common.{Some, Result, Ok, Err, Contains, IsTrue, refl, sym, ap, ◌∙◌, subst, arith, is_some}
use Rattle.std.proofs.lemmas.Bool.{eqb-true}
use Rattle.std.proofs.lemmas.List.Elements.{Contains-push, Contains-push_cases, Contains-append_left, Contains-append_right}
use Rattle.std.proofs.lemmas.Option.{same_Some}
use Rattle.std.specs.Cmp.Lexicographic.{same_text}
use Rattle.ledger_spec.specs.declared.Kind.{Kind}
use Rattle.ledger_spec.specs.declared.ShapeFault.{ShapeFault}
use Rattle.ledger_spec.specs.Bytes.{Bytes, Hash, Half, IsHalf, Lookup, is_nonzero, are_bytes, same_bytes}
use Rattle.ledger_spec.specs.Forms.{Held, header, Form, IsHeld, form_of, hash_of, header_prefix}
use Rattle.ledger_spec.specs.Wire.{read_wire}
use Rattle.ledger_spec.specs.Rules.{fault_of}
use Rattle.ledger_spec.specs.Spots.{Spot, no_base, no_parent, empty_branch, under_leaf, wanted, spot_of}
use Rattle.ledger_spec.specs.Own.{IsStoredAt, AreStored}
use Rattle.ledger_spec.specs.declared.outcomes.Offered.{Offered}
use Rattle.ledger_spec.specs.declared.outcomes.Offered.TheVariants as offered
use Rattle.ledger_spec.specs.declared.outcomes.HeadOffered.{HeadOffered}
use Rattle.ledger_spec.specs.declared.outcomes.HeadOffered.TheVariants as head
use Rattle.ledger_spec.specs.Offers.{Clash, head_forms, head_given, head_outcome, node_given, spot_outcome, wire_outcome}
use Rattle.ledger_spec.specs.Offers.{node_outcome, stored_by}
use Rattle.ledger_spec.specs.Bases.{with_form, with_forms}
use Rattle.ledger_spec.proofs.shared.OfferLaws.{read_wire_held, wanted_nonzero}
use Rattle.ledger_spec.proofs.shared.ByteForms.{read_wire_bytes}

-- nothing is in no list
pub in_nothing : {A : Type 0} {x : A} → Contains [] x → ⊥
in_nothing c = let below : c.0 < 0 = c.1 in omega (arith, below)

-- a form of what is held, whose hash isn't zero
pub record IsOwnForm (half : Half) (form : Bytes) : Type 0 where
  pub nonzero : IsTrue (is_nonzero (half form))
  pub held : (n : Held) × Form half n form

-- the one entry of a list
pub in_one : {A : Type 0} (x y : A) → Contains (x ∷ []) y → y ≡ x
in_one {A} x y c = ⊎_elim (λ no. absurd (in_nothing no)) (λ e. sym e) (Contains-push_cases [] x y c)

-- a duplicate or a clash stores nothing
same_or_clash : (b : Bool) (n : Held) (c : Clash) (form : Bytes)
    → Contains (stored_by (Ok n) (if b then Ok offered.Duplicate else Err c)) form → ⊥
same_or_clash true n c form i = in_nothing i
same_or_clash false n c form i = in_nothing i

-- a node with the wanted hash stores its form alone
given_stored : (fault : Option ShapeFault) (h : Hash) (n : Held) (o : Option Bytes) (form : Bytes)
    → Contains (stored_by (Ok n) (node_given fault h (form_of n) o)) form → form ≡ form_of n
given_stored None h n None form i = in_one (form_of n) form i
given_stored (Some fault) h n None form i = in_one (form_of n) form i
given_stored None h n (Some old) form i = absurd (same_or_clash (same_bytes old (form_of n)) n _ form i)
given_stored (Some fault) h n (Some old) form i = absurd (same_or_clash (same_bytes old (form_of n)) n _ form i)

-- what stores something passed the test
tested_stored : (b : Bool) (n : Held) (r : Result Offered Clash) (h found : Hash) (form : Bytes)
    → Contains (stored_by (Ok n) (if b then r else Ok (offered.BadHash h found))) form
    → (b ≡ true) × Contains (stored_by (Ok n) r) form
tested_stored true n r h found form i = (refl, i)
tested_stored false n r h found form i = absurd (in_nothing i)

-- the form of what is held, under the wanted hash
held_stored : (half : Half) (n : Held) (h : Hash) (form : Bytes) → IsHeld half n → IsTrue (is_nonzero h) → hash_of half n ≡ h
    → form ≡ form_of n → IsOwnForm half form
held_stored half n h form held nonzero same e =
    record { nonzero = subst (λ x. IsTrue (is_nonzero x)) (sym (ap half e ∙ same)) nonzero; held = (n, (held, e)) }

-- each form that a node stores, where the hash that is wanted isn't zero
spot_stored : (half : Half) (nodes : Lookup) (kind : Kind) (path : List ℕ) (n : Held) (x : Spot) (form : Bytes) → IsHeld half n
    → ((h : Hash) (parent : Option (List Hash)) → x ≡ wanted h parent → IsTrue (is_nonzero h))
    → Contains (stored_by (Ok n) (spot_outcome half nodes kind path n x)) form
    → IsOwnForm half form
spot_stored half nodes kind path n no_base form held nonzero i = absurd (in_nothing i)
spot_stored half nodes kind path n (no_parent p) form held nonzero i = absurd (in_nothing i)
spot_stored half nodes kind path n (empty_branch p) form held nonzero i = absurd (in_nothing i)
spot_stored half nodes kind path n (under_leaf p) form held nonzero i = absurd (in_nothing i)
spot_stored half nodes kind path n (wanted h parent) form held nonzero i =
    let given : Result Offered Clash = node_given (fault_of n parent kind path) h (form_of n) (nodes h) in
    let passed : (same_bytes (hash_of half n) h ≡ true) × Contains (stored_by (Ok n) given) form = tested_stored (same_bytes (hash_of
    half n) h) n given h (hash_of half n) form i in
    held_stored half n h form held (nonzero h parent refl) (same_text (hash_of half n) h (sym passed.0)) (given_stored (fault_of n
    parent kind path) h n (nodes h) form passed.1)

-- each form that a node stores, where what was read has a form
read_stored : (half : Half) (nodes : Lookup) (t : Hash) (kind : Kind) (path : List ℕ) (r : Result Held ℕ) (form : Bytes)
    → ((n : Held) → r ≡ Ok n → IsHeld half n)
    → Contains (stored_by r (wire_outcome half nodes t kind path r)) form → IsOwnForm half form
read_stored half nodes t kind path (Err cause) form held i = absurd (in_nothing i)
read_stored half nodes t kind path (Ok n) form held i = spot_stored half nodes kind path n (spot_of nodes t kind path) form (held n
    refl) (λ h parent e. wanted_nonzero nodes t kind path h parent e) i

-- each form that a node's bytes store
pub node_stored : (half : Half) (sized : IsHalf half) (nodes : Lookup) (t : Hash) (kind : Kind) (path : List ℕ) (blob form : Bytes)
    → Contains (stored_by (read_wire half blob) (node_outcome half nodes t kind path blob)) form → IsOwnForm half form
node_stored half sized nodes t kind path blob form i =
    read_stored half nodes t kind path (read_wire half blob) form (λ n e. read_wire_held half blob n sized e) i

-- an answer that is good passed both tests before it
head_tests : (a b : Bool) (x y r : Result HeadOffered Clash) → (x ≡ Ok head.Good → ⊥) → (y ≡ Ok head.Good → ⊥)
    → (if not a then x else if not b then y else r) ≡ Ok head.Good → (a ≡ true) × (b ≡ true)
head_tests false b x y r nx ny e = absurd (nx e)
head_tests true false x y r nx ny e = absurd (ny e)
head_tests true true x y r nx ny e = (refl, refl)

-- a bad length isn't good
bad_length : {n : ℕ} → ◌≡◌ {A = Result HeadOffered Clash} (Ok (head.BadLength n)) (Ok head.Good) → ⊥
bad_length e = cc

-- a bad hash isn't good
bad_hash : {h : Hash} → ◌≡◌ {A = Result HeadOffered Clash} (Ok (head.BadHash h)) (Ok head.Good) → ⊥
bad_hash e = cc

-- a good header may be stored
pub head_stored : (half : Half) (nodes : Lookup) (t : Hash) (bytes : Bytes) → IsTrue (is_nonzero t)
    → head_outcome half nodes t bytes ≡ Ok head.Good
    → IsOwnForm half (header_prefix ++ bytes)
head_stored half nodes t bytes nonzero e =
    let form : Bytes = header_prefix ++ bytes in
    let tests : (length bytes == 118 ≡ true) × (same_bytes (half form) t ≡ true) =
    head_tests (length bytes == 118) (same_bytes (half form) t) (Ok (head.BadLength (length bytes))) (Ok (head.BadHash (half form)))
    (head_given t form (nodes t)) bad_length bad_hash e in
    held_stored half (header bytes) t form (eqb-true (length bytes) 118 tests.0) nonzero (same_text (half form) t (sym tests.1)) refl

-- what is stored of bytes is bytes
read_bytes : (r : Result Held ℕ) (o : Result Offered Clash) (form : Bytes) → ((n : Held) → r ≡ Ok n → IsTrue (are_bytes (form_of n)))
    → Contains (stored_by r o) form → IsTrue (are_bytes form)
read_bytes (Ok n) (Ok offered.Good) form bytes i = subst (λ x. IsTrue (are_bytes x)) (sym (in_one (form_of n) form i)) (bytes n refl)
read_bytes (Ok n) (Ok (offered.Malformed rule)) form bytes i =
    subst (λ x. IsTrue (are_bytes x)) (sym (in_one (form_of n) form i)) (bytes n refl)
read_bytes (Ok n) (Ok offered.Duplicate) form bytes i = absurd (in_nothing i)
read_bytes (Ok n) (Ok (offered.BadWire cause)) form bytes i = absurd (in_nothing i)
read_bytes (Ok n) (Ok (offered.BadHash h found)) form bytes i = absurd (in_nothing i)
read_bytes (Ok n) (Ok offered.NoBase) form bytes i = absurd (in_nothing i)
read_bytes (Ok n) (Ok (offered.NoParent p)) form bytes i = absurd (in_nothing i)
read_bytes (Ok n) (Ok (offered.EmptyBranch p)) form bytes i = absurd (in_nothing i)
read_bytes (Ok n) (Ok (offered.UnderLeaf p)) form bytes i = absurd (in_nothing i)
read_bytes (Ok n) (Err clash) form bytes i = absurd (in_nothing i)
read_bytes (Err cause) o form bytes i = absurd (in_nothing i)

head_bytes : (bytes : Bytes) → IsTrue (are_bytes bytes) → IsTrue (are_bytes (header_prefix ++ bytes))
head_bytes bytes all = all

-- a node's bytes store what may be stored
pub node_fits : (half : Half) (sized : IsHalf half) (nodes : Lookup) (t : Hash) (kind : Kind) (path : List ℕ) (blob form : Bytes)
    → IsTrue (are_bytes blob)
    → Contains (stored_by (read_wire half blob) (node_outcome half nodes t kind path blob)) form → IsStoredAt half (half form) form
node_fits half sized nodes t kind path blob form all i =
    let own : IsOwnForm half form = node_stored half sized nodes t kind path blob form i in
    record {
      own = refl;
      nonzero = own.nonzero;
      held = own.held;
      bytes = read_bytes (read_wire half blob) (node_outcome half nodes t kind path blob) form (λ n e. read_wire_bytes half blob n all e) i;
    }

-- and a header's
pub head_fits : (half : Half) (nodes : Lookup) (t : Hash) (bytes : Bytes) → IsTrue (is_nonzero t) → IsTrue (are_bytes bytes)
    → head_outcome half nodes t bytes ≡ Ok head.Good
    → IsStoredAt half (half (header_prefix ++ bytes)) (header_prefix ++ bytes)
head_fits half nodes t bytes nonzero all e =
    let own : IsOwnForm half (header_prefix ++ bytes) = head_stored half nodes t bytes nonzero e in
    record { own = refl; nonzero = own.nonzero; held = own.held; bytes = head_bytes bytes all }

-- what a header stores
pub head_form_fits : (half : Half) (nodes : Lookup) (t : Hash) (bytes : Bytes) (r : Result HeadOffered Clash) (form : Bytes)
    → IsTrue (is_nonzero t) → IsTrue (are_bytes bytes) → head_outcome half nodes t bytes ≡ r
    → Contains (head_forms r bytes) form → IsStoredAt half (half form) form
head_form_fits half nodes t bytes (Ok head.Good) form nonzero all e i =
    subst (λ f. IsStoredAt half (half f) f) (sym (in_one (header_prefix ++ bytes) form i)) (head_fits half nodes t bytes nonzero all e)
head_form_fits half nodes t bytes (Ok head.Duplicate) form nonzero all e i = absurd (in_nothing i)
head_form_fits half nodes t bytes (Ok (head.BadLength n)) form nonzero all e i = absurd (in_nothing i)
head_form_fits half nodes t bytes (Ok (head.BadHash h)) form nonzero all e i = absurd (in_nothing i)
head_form_fits half nodes t bytes (Err c) form nonzero all e i = absurd (in_nothing i)

-- one form more keeps what is stored
form_kept : (half : Half) (nodes : Lookup) (form : Bytes) → AreStored half nodes → IsStoredAt half (half form) form
    → AreStored half (with_form half nodes form)
form_kept half nodes form all fits h f e = by_hash (is_some (nodes (half form))) (same_bytes h (half form)) refl e
  where
    by_hash : (there same : Bool) → same_bytes h (half form) ≡ same
        → (if there then nodes h else if same then Some form else nodes h) ≡ Some f → IsStoredAt half h f
    by_hash true same is e = all h f e
    by_hash false false is e = all h f e
    by_hash false true is e =
        subst (λ x. IsStoredAt half x f) (sym (same_text h (half form) (sym is))) (subst (λ x. IsStoredAt half (half form) x)
        (same_Some form f e) fits)

-- and so do forms more
pub forms_kept : (half : Half) (nodes : Lookup) (forms : List Bytes) → AreStored half nodes
    → ((form : Bytes) → Contains forms form → IsStoredAt half (half form) form) → AreStored half (with_forms half nodes forms)
forms_kept half nodes [] all fits = all
forms_kept half nodes (form ∷ forms) all fits =
    forms_kept half (with_form half nodes form) forms (form_kept half nodes form all (fits form (Contains-append_left (form ∷ []) forms
    form (Contains-push [] form))))
    (λ f i. fits f (Contains-append_right (form ∷ []) forms f i))
