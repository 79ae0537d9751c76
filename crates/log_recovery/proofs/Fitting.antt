-- Which entries of a log are records, as the code tests it, and that a record is what a store may begin with.
use Rattle.std.proofs.Common.{◌≡◌, ◌≤◌, ◌<◌, ◌∙◌, sym, ap, refl, ℕ, Bool, true, false, ◌&&◌, nat_le, IsTrue, List, [], ◌∷◌}
use Rattle.std.proofs.Common.{length, take, drop, ◌++◌, get_or, suc, Option, Some, None, is_some, if◌then◌else◌, arith, Result, Ok, Err}
use Rattle.std.specs.Prelude.{IfOk}
use Rattle.std.proofs.Common.{length-append}
use Rattle.std.specs.Cmp.Lexicographic.{same_text}
use Rattle.std.proofs.lemmas.Bool.{lt-ltb, le-leb}
use Rattle.std.proofs.lemmas.List.{take_at, drop_at}
use Rattle.half_hash.specs.declared.bytes.Memory.{Memory}
use Rattle.ledger_spec.specs.Bytes.{Bytes, Hash, Half, are_bytes, is_zero, is_nonzero, same_bytes}
use Rattle.ledger_spec.specs.Forms.{Held, Form, form_of}
use Rattle.ledger_spec.specs.Findings.{held_of}
use Rattle.ledger_spec.specs.Own.{IsStoredAt, is_own, own_form}
use Rattle.ledger_spec.proofs.shared.Owning.{own_is}
use Rattle.shamap_node.proofs.shared.Seen.{held_by_form}
use Rattle.path_proof.specs.Sources.{IsForeign, Holds}
use Rattle.log_recovery.specs.Records.{is_fit, is_record}

-- bytes of the code are below 256
pub bytes_from : (bs : List ℕ) → ((k : ℕ) → get_or bs k 0 < 256) → IsTrue (are_bytes bs)
bytes_from [] h = refl
bytes_from (b ∷ bs) h = rw (lt-ltb b 256 (h 0), bytes_from bs (λ k. h (suc k))) refl

-- the three parts of the test
all_of : (a b c : Bool) → a ≡ true → b ≡ true → c ≡ true → true ≡ (a && (b && c))
all_of a b c p q r = rw (p, q, r) refl

second_fails : (a b c : Bool) → b ≡ false → false ≡ (a && (b && c))
second_fails true b c q = rw q refl
second_fails false b c q = refl

parts_of : (a b c : Bool) → (a && (b && c)) ≡ true → (a ≡ true) × (b ≡ true) × (c ≡ true)
parts_of true true c e = (refl, refl, e)
parts_of true false c e = absurd (cc)
parts_of false b c e = absurd (cc)

two_of : (a b : Bool) → (a && b) ≡ true → (a ≡ true) × (b ≡ true)
two_of true b e = (refl, e)
two_of false b e = absurd (cc)

pub zero_unfit : (half : Half) (h : Hash) (form : Bytes) → is_zero h ≡ true → false ≡ is_fit half h form
zero_unfit half h form zero = rw zero refl

own_there : (b : Bool) (form there : Bytes) → (if b then Some form else None) ≡ Some there → b ≡ true
own_there true form there e = refl
own_there false form there e = absurd (cc)

own_none : (b : Bool) (form : Bytes) → (if b then Some form else None) ≡ None → b ≡ false
own_none true form e = absurd (cc)
own_none false form e = refl

-- a node was read
pub node_fits : (half : Half) (h : Hash) (form : Bytes) (n : Held) → is_zero h ≡ false → IsTrue (are_bytes form)
    → Holds half (own_form half h (Some form)) n → true ≡ is_fit half h form
node_fits half h form n nonzero bytes holds =
    all_of (is_nonzero h) (is_own half h form) (are_bytes form) (rw nonzero refl)
    (own_there (is_own half h form) form (form_of n) holds.0) bytes

-- a header was
pub header_fits : (half : Half) (h : Hash) (form : Bytes) → is_zero h ≡ false → IsTrue (are_bytes form)
    → IsForeign half (own_form half h (Some form)) → true ≡ is_fit half h form
header_fits half h form nonzero bytes foreign =
    all_of (is_nonzero h) (is_own half h form) (are_bytes form) (rw nonzero refl)
    (own_there (is_own half h form) form foreign.0 foreign.1) bytes

-- nothing was
pub none_unfit : (half : Half) (h : Hash) (form : Bytes) → own_form half h (Some form) ≡ None → false ≡ is_fit half h form
none_unfit half h form none =
    second_fails (is_nonzero h) (is_own half h form) (are_bytes form) (own_none (is_own half h form) form none)

-- an entry of 32 bytes at least
pub entry_tested : (half : Half) (entry hash form : Bytes) (r : Result Bool Memory) → 32 ≤ length entry → hash ≡ take 32 entry
    → form ≡ drop 32 entry → IfOk r (λ fit. fit ≡ is_fit half hash form) → IfOk r (λ is. is ≡ is_record half entry)
entry_tested half entry hash form (Ok fit) long front back is =
    let fits : is_fit half hash form ≡ is_fit half (take 32 entry) (drop 32 entry) =
    ap (λ (h : Hash). is_fit half h form) front ∙ ap (is_fit half (take 32 entry)) back in
    is ∙ (fits ∙ ap (λ (b : Bool). b && is_fit half (take 32 entry) (drop 32 entry)) (sym (le-leb 32 (length entry) long)))
entry_tested half entry hash form (Err e) long front back is = tt

held_some : (half : Half) (sized : (x : Bytes) → length (half x) ≡ 32) (form : Bytes) (o : Option Held) → held_of half form ≡ o
    → is_some o ≡ true → (n : Held) × Form half n form
held_some half sized form None e some = absurd (cc)
held_some half sized form (Some n) e some = (n, (held_by_form half sized n form).1 e)

-- what fits may be stored, and what may be stored is a record
pub fit_stored : (half : Half) (sized : (x : Bytes) → length (half x) ≡ 32) (h : Hash) (form : Bytes) → is_fit half h form ≡ true
    → IsStoredAt half h form
fit_stored half sized h form fit =
    let parts = parts_of (is_nonzero h) (is_own half h form) (are_bytes form) fit in
    let own = two_of (same_bytes (half form) h) (is_some (held_of half form)) parts.1 in
    record {
      own = sym (same_text (half form) h (sym own.0));
      nonzero = parts.0;
      held = held_some half sized form (held_of half form) refl own.1;
      bytes = parts.2;
    }

pub record_stored : (half : Half) (sized : (x : Bytes) → length (half x) ≡ 32) (entry : Bytes) → is_record half entry ≡ true
    → IsStoredAt half (take 32 entry) (drop 32 entry)
record_stored half sized entry is =
    fit_stored half sized (take 32 entry) (drop 32 entry)
    (two_of (nat_le 32 (length entry)) (is_fit half (take 32 entry) (drop 32 entry)) is).1

pub stored_record : (half : Half) (sized : (x : Bytes) → length (half x) ≡ 32) (h : Hash) (form : Bytes) → IsStoredAt half h form
    → is_record half (h ++ form) ≡ true
stored_record half sized h form stored =
    let size : length h ≡ 32 = ap length stored.own ∙ sized form in
    let fit : is_fit half h form ≡ true =
    sym (all_of (is_nonzero h) (is_own half h form) (are_bytes form) stored.nonzero (own_is half h form stored) stored.bytes) in
    rw (take_at h form 32 size, drop_at h form 32 size, fit, le-leb 32 (length (h ++ form)) (omega (arith, size, length-append h form))) refl
