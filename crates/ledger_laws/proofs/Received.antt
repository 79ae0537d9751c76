-- A header or a node that was received for a ledger is stored, and stays so.
use Rattle.std.proofs.Common.{◌≡◌, ℕ, Bool, true, false, not, if◌then◌else◌, ◌==◌, List, [], ◌∷◌, ◌++◌, length, Option, None}
use Rattle.std.proofs.Common.{Some, is_some, Result, Ok, Err, Contains, refl, sym, ap, ◌∙◌, subst}
use Rattle.std.specs.Ordering.{is_eq}
use Rattle.std.specs.FinMap as finite
use Rattle.std.specs.FinSet as set
use Rattle.std.specs.Cmp.Lexicographic.{same_text}
use Rattle.std.proofs.lemmas.Cmp.{nat_list_cmp_total, tied_itself}
use Rattle.ledger_spec.specs.declared.Kind.{Kind}
use Rattle.ledger_spec.specs.declared.ShapeFault.{ShapeFault}
use Rattle.ledger_spec.specs.Bytes.{Bytes, Hash, Half, Lookup, Nodes, same_bytes}
use Rattle.ledger_spec.specs.Forms.{Held, header, form_of, hash_of, header_prefix}
use Rattle.ledger_spec.specs.Reach.{Reach, root, kid}
use Rattle.ledger_spec.specs.Rules.{fault_of}
use Rattle.ledger_spec.specs.Spots.{Spot, no_base, no_parent, empty_branch, under_leaf, wanted, spot_of}
use Rattle.ledger_spec.specs.Wire.{read_wire}
use Rattle.ledger_spec.proofs.shared.OfferLaws.{err_ok, ok_same}
use Rattle.ledger_spec.proofs.shared.ReachLaws.{Grows, reach_grows, reach_joins}
use Rattle.ledger_spec.specs.declared.outcomes.Offered.{Offered}
use Rattle.ledger_spec.specs.declared.outcomes.Offered.TheVariants as offered
use Rattle.ledger_spec.specs.declared.outcomes.HeadOffered.{HeadOffered}
use Rattle.ledger_spec.specs.declared.outcomes.HeadOffered.TheVariants as head
use Rattle.ledger_machine.specs.State.{State, form_in, with_form, with_forms}
use Rattle.ledger_spec.specs.Offers.{Clash, head_given, head_outcome, head_forms, node_given, spot_outcome, wire_outcome, node_outcome}
use Rattle.ledger_spec.specs.Offers.{stored_by}
use Rattle.ledger_spec.specs.Bases.{given, root_outcome, root_forms}
use Rattle.ledger_machine.specs.Base.{node_forms}
use Rattle.ledger_machine.specs.Steps.{IsAfter}
use Rattle.ledger_machine.specs.Receipts.{IsReceived, IsHeadReceived, IsReceivedPart, IsKept}
use Rattle.ledger_laws.proofs.SoundKeeps.{shaded_same}
use Rattle.ledger_laws.proofs.shared.SoundForms.{get_more, in_head, with_forms_grow}
use Rattle.ledger_spec.proofs.shared.Storing.{in_one}
use Rattle.ledger_laws.proofs.shared.Ways.{IsNamed, named_reached, wanted_named}

-- what a rotation keeps is no part of what is stored
pub after_grows : (t s' : State) → IsAfter t s' → Grows (form_in t) (form_in s')
after_grows t s' e h form x = ap (λ (n : Nodes). finite.get n h) (shaded_same t s' e).nodes ∙ x

-- what is kept stays so
pub kept_grows : (half : Half) (s s' : State) (targets : List Hash) (n : Held) → Grows (form_in s) (form_in s') → IsKept half s targets n
    → IsKept half s' targets n
kept_grows half s s' targets n up k = record { stored = up (hash_of half n) (form_of n) k.stored; reached = reach_grows up k.reached }

-- what is reached is reached in a store that has the same forms under all that is reached
pub reach_alike : (m n : Lookup) (targets : List Hash) → ((h : Hash) → Reach m targets h → n h ≡ m h) → {h : Hash} → Reach m targets h
    → Reach n targets h
reach_alike m n targets same {h} (root named stored) = root named (stored.0, same h (root named stored) ∙ stored.1)
reach_alike m n targets same {h} (kid reached form named stored) =
    kid (reach_alike m n targets same reached) (same _ reached ∙ form) named
    (stored.0, same h (kid reached form named stored) ∙ stored.1)

-- and is reached from a list that has the target
pub kept_among : (half : Half) (s : State) (t : Hash) (targets : List Hash) (n : Held) → Contains targets t → IsKept half s (t ∷ []) n
    → IsKept half s targets n
kept_among half s t targets n among k = record {
  stored = k.stored;
  reached = reach_joins (λ r c stored. root (subst (Contains targets) (sym (in_one t r c)) among) stored) k.reached;
}

-- a new form is found under its hash
new_stored : (half : Half) (s : State) (form : Bytes) → form_in s (half form) ≡ None
    → form_in (with_form half s form) (half form) ≡ Some form
new_stored half s form free = at (form_in s (half form)) free
  where
    at : (o : Option Bytes) → o ≡ None
        → form_in (if is_some o then s else record s
        { nodes = finite.insert s.nodes (half form) form; born = set.insert s.born (half form) }) (half form) ≡ Some form
    at (Some old) e = cc
    at None e = get_more s.nodes (half form) form (half form) true (ap is_eq (tied_itself nat_list_cmp_total (half form)))

-- a node that is there already is stored
same_stored : (half : Half) (s : State) (n : Held) (old : Bytes) (o : Offered) (c : Clash) (b : Bool) → same_bytes old (form_of n) ≡ b
    → form_in s (hash_of half n) ≡ Some old
    → (if b then Ok offered.Duplicate else Err c) ≡ Ok o
    → form_in (with_forms half s (stored_by (Ok n) (if b then Ok offered.Duplicate else Err c))) (hash_of half n) ≡ Some (form_of n)
same_stored half s n old o c true is there e = there ∙ ap Some (same_text old (form_of n) (sym is))
same_stored half s n old o c false is there e = absurd (err_ok e)

-- a node with the wanted hash is stored, now or before
given_stored : (half : Half) (s : State) (n : Held) (fault : Option ShapeFault) (held : Option Bytes) (o : Offered)
    → form_in s (hash_of half n) ≡ held
    → node_given fault (hash_of half n) (form_of n) held ≡ Ok o
    → form_in (with_forms half s (stored_by (Ok n) (node_given fault (hash_of half n) (form_of n) held))) (hash_of half n) ≡ Some
    (form_of n)
given_stored half s n None None o free e = new_stored half s (form_of n) free
given_stored half s n (Some fault) None o free e = new_stored half s (form_of n) free
given_stored half s n None (Some old) o there e =
    same_stored half s n old o (record { hash = hash_of half n; old = old; new = form_of n }) (same_bytes old (form_of n)) refl there e
given_stored half s n (Some fault) (Some old) o there e =
    same_stored half s n old o (record { hash = hash_of half n; old = old; new = form_of n }) (same_bytes old (form_of n)) refl there e

-- an outcome behind a test, other than a bad hash
past_hash : (b : Bool) (r : Result Offered Clash) (h found : Hash) (o : Offered) → (if b then r else Ok (offered.BadHash h found)) ≡ Ok o
    → IsReceived o
    → (b ≡ true) × (r ≡ Ok o)
past_hash true r h found o e received = (refl, e)
past_hash false r h found o e received = absurd (subst IsReceived (sym (ok_same e)) received)

-- a node that is received at a place is kept
spot_kept : (half : Half) (s : State) (t : Hash) (kind : Kind) (path : List ℕ) (n : Held) (x : Spot) (o : Offered)
    → spot_of (form_in s) t kind path ≡ x
    → spot_outcome half (form_in s) kind path n x ≡ Ok o → IsReceived o
    → IsKept half (with_forms half s (stored_by (Ok n) (spot_outcome half (form_in s) kind path n x))) (t ∷ []) n
spot_kept half s t kind path n no_base o is e received = absurd (subst IsReceived (sym (ok_same e)) received)
spot_kept half s t kind path n (no_parent p) o is e received = absurd (subst IsReceived (sym (ok_same e)) received)
spot_kept half s t kind path n (empty_branch p) o is e received = absurd (subst IsReceived (sym (ok_same e)) received)
spot_kept half s t kind path n (under_leaf p) o is e received = absurd (subst IsReceived (sym (ok_same e)) received)
spot_kept half s t kind path n (wanted h parent) o is e received =
    let given : Result Offered Clash = node_given (fault_of n parent kind path) h (form_of n) (form_in s h) in
    let out : Result Offered Clash = if same_bytes (hash_of half n) h then given else Ok (offered.BadHash h (hash_of half n)) in
    let past : (same_bytes (hash_of half n) h ≡ true) × (given ≡ Ok o) =
    past_hash (same_bytes (hash_of half n) h) given h (hash_of half n) o e received in
    let same : hash_of half n ≡ h = same_text (hash_of half n) h (sym past.0) in
    let own : Result Offered Clash = node_given (fault_of n parent kind path) (hash_of half n) (form_of n) (form_in s (hash_of half n)) in
    let as_given : own ≡ given = ap (λ x. node_given (fault_of n parent kind path) x (form_of n) (form_in s x)) same in
    let there : form_in (with_forms half s (stored_by (Ok n) out)) (hash_of half n) ≡ Some (form_of n) =
    subst (λ r. form_in (with_forms half s (stored_by (Ok n) r)) (hash_of half n) ≡ Some (form_of n)) (as_given ∙ past.1 ∙ sym e)
    (given_stored half s n (fault_of n parent kind path) (form_in s (hash_of half n)) o refl (as_given ∙ past.1)) in
    let name : IsNamed (form_in s) t (hash_of half n) = subst (IsNamed (form_in s) t) (sym same)
    (wanted_named (form_in s) t kind path h parent is) in
    record {
      stored = there;
      reached = named_reached (form_in s) (form_in (with_forms half s (stored_by (Ok n) out))) t (hash_of half n)
          (with_forms_grow half s (stored_by (Ok n) out)) name (form_of n, there);
    }

-- a node that is read and received is kept
read_kept : (half : Half) (s : State) (t : Hash) (kind : Kind) (path : List ℕ) (r : Result Held ℕ) (n : Held) (o : Offered) → r ≡ Ok n
    → wire_outcome half (form_in s) t kind path r ≡ Ok o → IsReceived o
    → IsKept half (with_forms half s (stored_by r (wire_outcome half (form_in s) t kind path r))) (t ∷ []) n
read_kept half s t kind path (Err cause) n o is e received = absurd (err_ok is)
read_kept half s t kind path (Ok m) n o is e received =
    subst (λ x. IsKept half (with_forms half s (stored_by (Ok m) (wire_outcome half (form_in s) t kind path (Ok m)))) (t ∷ []) x)
    (ok_same is)
    (spot_kept half s t kind path m (spot_of (form_in s) t kind path) o refl e received)

pub node_kept : (half : Half) (s : State) (t : Hash) (kind : Kind) (path : List ℕ) (blob : Bytes) (n : Held) (o : Offered)
    → node_outcome half (form_in s) t kind path blob ≡ Ok o
    → IsReceivedPart half (Some blob) (Some o) n → IsKept half (with_forms half s (node_forms half s t kind path blob)) (t ∷ []) n
node_kept half s t kind path blob n o e received = read_kept half s t kind path (read_wire half blob) n o received.1 e received.0

-- a root that is given, and answered so
root_given : (r : Result Offered Clash) (o : Offered) → given r ≡ Ok (Some o) → r ≡ Ok o
root_given (Ok x) o e = cc
root_given (Err c) o e = absurd (err_ok e)

-- a root that is received over what a state holds is kept
pub root_kept : (half : Half) (s : State) (nodes : Lookup) (t : Hash) (kind : Kind) (blob : Option Bytes) (a : Option Offered) (n : Held)
    → form_in s ≡ nodes → root_outcome half nodes t kind blob ≡ Ok a → IsReceivedPart half blob a n
    → IsKept half (with_forms half s (root_forms half nodes t kind blob)) (t ∷ []) n
root_kept half s nodes t kind blob a n is =
    subst (λ x. root_outcome half x t kind blob ≡ Ok a → IsReceivedPart half blob a n
    → IsKept half (with_forms half s (root_forms half x t kind blob)) (t ∷ []) n) is (own blob a)
  where
    own : (blob : Option Bytes) (a : Option Offered) → root_outcome half (form_in s) t kind blob ≡ Ok a → IsReceivedPart half blob a n
        → IsKept half (with_forms half s (root_forms half (form_in s) t kind blob)) (t ∷ []) n
    own None a e received = absurd received
    own (Some blob) None e received = absurd received
    own (Some blob) (Some o) e received =
        node_kept half s t kind [] blob n o (root_given (node_outcome half (form_in s) t kind [] blob) o e) received

-- an answer to a header behind the tests of its length and its hash
past_tests : (a b : Bool) (n : ℕ) (found : Hash) (r : Result HeadOffered Clash) (h : HeadOffered)
    → (if not a then Ok (head.BadLength n) else if not b then Ok (head.BadHash found) else r) ≡ Ok h → IsHeadReceived h → (b ≡ true)
    × (r ≡ Ok h)
past_tests false b n found r h e received = absurd (subst IsHeadReceived (sym (ok_same e)) received)
past_tests true false n found r h e received = absurd (subst IsHeadReceived (sym (ok_same e)) received)
past_tests true true n found r h e received = (refl, e)

-- the state behind a header
abbrev pub after_head : Half → State → Bytes → Result HeadOffered Clash → State
after_head half s bytes r = with_forms half s (head_forms r bytes)

-- a header of the right hash is stored, now or before
head_stored : (half : Half) (s : State) (bytes : Bytes) (held : Option Bytes) (h : HeadOffered)
    → form_in s (half (header_prefix ++ bytes)) ≡ held
    → head_given (half (header_prefix ++ bytes)) (header_prefix ++ bytes) held ≡ Ok h
    → form_in (after_head half s bytes (head_given (half (header_prefix ++ bytes)) (header_prefix ++ bytes) held))
    (half (header_prefix ++ bytes)) ≡ Some (header_prefix ++ bytes)
head_stored half s bytes None h free e = new_stored half s (header_prefix ++ bytes) free
head_stored half s bytes (Some old) h there e = at (same_bytes old (header_prefix ++ bytes)) refl e
  where
    clash : Clash
    clash = record { hash = half (header_prefix ++ bytes); old = old; new = header_prefix ++ bytes }

    at : (b : Bool) → same_bytes old (header_prefix ++ bytes) ≡ b → (if b then Ok head.Duplicate else Err clash) ≡ Ok h
        → form_in (after_head half s bytes (if b then Ok head.Duplicate else Err clash)) (half (header_prefix ++ bytes)) ≡ Some
        (header_prefix ++ bytes)
    at true is e = there ∙ ap Some (same_text old (header_prefix ++ bytes) (sym is))
    at false is e = absurd (err_ok e)

-- a header that is received is kept
pub head_kept : (half : Half) (s : State) (t : Hash) (bytes : Bytes) (h : HeadOffered) → head_outcome half (form_in s) t bytes ≡ Ok h
    → IsHeadReceived h
    → IsKept half (after_head half s bytes (head_outcome half (form_in s) t bytes)) (t ∷ []) (header bytes)
head_kept half s t bytes h e received =
    let form : Bytes = header_prefix ++ bytes in
    let given : Result HeadOffered Clash = head_given t form (form_in s t) in
    let past : (same_bytes (half form) t ≡ true) × (given ≡ Ok h) =
    past_tests (length bytes == 118) (same_bytes (half form) t) (length bytes) (half form) given h e received in
    let same : half form ≡ t = same_text (half form) t (sym past.0) in
    let as_given : head_given (half form) form (form_in s (half form)) ≡ given = ap (λ x. head_given x form (form_in s x)) same in
    let there : form_in (after_head half s bytes (head_outcome half (form_in s) t bytes)) (half form) ≡ Some form =
    subst (λ r. form_in (after_head half s bytes r) (half form) ≡ Some form) (as_given ∙ past.1 ∙ sym e)
    (head_stored half s bytes (form_in s (half form)) h refl (as_given ∙ past.1)) in
    record { stored = there; reached = root (subst (λ x. Contains (t ∷ []) x) (sym same) (in_head t [])) (form, there) }
