-- A check is complete exactly where nothing that the header reaches is absent and the ledger is acceptable.
use Rattle.std.proofs.Common.{◌≡◌, ◌⊎◌, inl, inr, ⊎_elim, ◌↔◌, ◌≢◌, ℕ, Bool, true, false, not, if◌then◌else◌, ◌==◌, ◌&&◌, nat_lt, List}
use Rattle.std.proofs.Common.{[], Option, None, Some, filter_map, refl, sym, ap, ◌∙◌, subst, IsSomeAnd}
use Rattle.std.specs.Option.{option_map, option_map_or}
use Rattle.std.proofs.lemmas.Bool.{eq-eqb, le-ltb}
use Rattle.ledger_spec.specs.Maps.{hash_cmp, get_in}
use Rattle.ledger_spec.specs.Bytes.{Bytes, Hash, Half, is_zero}
use Rattle.ledger_spec.specs.Header.{seq_of, state_root_of}
use Rattle.ledger_spec.specs.Forms.{Held}
use Rattle.ledger_spec.specs.Spots.{header_in}
use Rattle.ledger_spec.specs.Findings.{Finding, findings, up_to, seen, Whole}
use Rattle.ledger_spec.specs.declared.replies.CheckReply.{CheckReply}
use Rattle.ledger_spec.specs.declared.replies.CheckReply.TheVariants as check
use Rattle.ledger_machine.specs.declared.commands.Command.{Command}
use Rattle.ledger_machine.specs.declared.commands.Command.TheVariants as command
use Rattle.ledger_machine.specs.declared.commands.Reply.{Reply}
use Rattle.ledger_machine.specs.declared.commands.Reply.TheVariants as says
use Rattle.ledger_machine.specs.State.{State, form_in}
use Rattle.ledger_machine.specs.Check.{told_by, check_given, check_reply}
use Rattle.ledger_spec.specs.Replies.{check_said}
use Rattle.ledger_spec.specs.Findings.{missing_of, first_broken}
use Rattle.ledger_spec.specs.Peers.{Peers}
use Rattle.ledger_spec.specs.Acquiring.{Acquiring, Verdict, complete, seq_differs, zero_state, below_floor}
use Rattle.ledger_spec.specs.Acquiring.{place_verdict, header_verdict}
use Rattle.ledger_machine.specs.Steps.{Step, Outcomes}
use Rattle.ledger_machine.specs.Complete.{IsAcceptable, IsComplete, IsExact}
use Rattle.ledger_laws.proofs.shared.SoundForms.{some_same}
use Rattle.ledger_laws.proofs.SoundCheck.{IsWholeFor, check_complete}
use Rattle.ledger_laws.proofs.StoredWhole.{stored_whole}
use Rattle.ledger_laws.proofs.Closure.{whole_all, whole_unbroken}

-- an acceptable header decides nothing alone
header_accepts : (asked floor : ℕ) (h : Bytes) (rest : Verdict) → IsAcceptable asked floor h
    → header_verdict asked floor (seq_of h) (state_root_of h) rest ≡ rest
header_accepts asked floor h rest fit =
    at (asked == 0) (asked == seq_of h) (is_zero (state_root_of h)) (nat_lt (seq_of h) floor)
    (⊎_elim (λ any. inl (eq-eqb asked 0 any)) (λ own. inr (eq-eqb asked (seq_of h) own)) fit.seq)
    (not_true (is_zero (state_root_of h)) fit.state) (le-ltb (seq_of h) floor fit.recent)
  where
    not_true : (b : Bool) → not b ≡ true → b ≡ false
    not_true true e = cc
    not_true false e = refl

    at : (a b z l : Bool) → (a ≡ true) ⊎ (b ≡ true) → z ≡ false → l ≡ false
        → (if not a && not b then seq_differs asked (seq_of h) else if z then zero_state else if l then below_floor floor else rest) ≡ rest
    at true b false false asked z l = refl
    at false true false false asked z l = refl
    at false false z l (inl e) p q = cc
    at false false z l (inr e) p q = cc
    at a b true l asked z p = cc
    at a b false true asked z p = cc

-- nothing is found of a whole ledger
none_seen : (fs : List Finding) → fs ≡ [] → (s : Peers)
    → place_verdict s (first_broken (up_to 256 fs)) (filter_map missing_of (up_to 256 fs)) ≡ complete
none_seen fs e s = ap (λ x. place_verdict s (first_broken (up_to 256 x)) (filter_map missing_of (up_to 256 x))) e

-- a complete ledger's check is complete
pub complete_checks : (half : Half) (s : State) (t : Hash) (a : Acquiring) → get_in hash_cmp s.wanted t ≡ Some a
    → IsComplete half s t a.seq → check_reply half s t ≡ check.Complete
complete_checks half s t a is c =
    let whole : Whole half (form_in s) t = stored_whole half (form_in s) t c.stored c.shape in
    ap (check_given half s t) is
    ∙ ap check_said (read places (header_in (form_in s) t) c.header ∙ none_seen (findings half (form_in s) t) whole a.peers)
  where
    places : Verdict
    places = place_verdict a.peers (first_broken (seen half (form_in s) t)) (filter_map missing_of (seen half (form_in s) t))

    read : (rest : Verdict) (h : Option Bytes) → IsSomeAnd h (IsAcceptable a.seq s.floor)
        → option_map_or (λ (x : ℕ × Hash). header_verdict a.seq s.floor x.0 x.1 rest) (option_map told_by h) rest ≡ rest
    read rest None fit = absurd fit
    read rest (Some h) fit = header_accepts a.seq s.floor h rest fit

-- and a check that is complete is of a complete ledger
pub checked_complete : (half : Half) (s : State) (t : Hash) (a : Acquiring) → get_in hash_cmp s.wanted t ≡ Some a
    → check_reply half s t ≡ check.Complete → IsComplete half s t a.seq
checked_complete half s t a is e =
    let own : (b : Acquiring) × (get_in hash_cmp s.wanted t ≡ Some b) × IsWholeFor half s t b = check_complete half s t e in
    let same : own.0 ≡ a = some_same (sym own.1 ∙ is) in
    record {
      stored = whole_all half (form_in s) t own.2.whole;
      header = subst (λ (x : Acquiring). IsSomeAnd (header_in (form_in s) t) (IsAcceptable x.seq s.floor)) same own.2.header;
      shape = whole_unbroken half (form_in s) t own.2.whole;
    }

-- what is said twice is one
check_same : {x y : CheckReply} → says.Check x ≡ says.Check y → x ≡ y
check_same e = cc

-- a check that met no fault and had memory gives the answer of its row
row_says : (half : Half) (s : State) (actor : ℕ) (t : Hash) (reply : Reply) (used : List Held) (s' : State)
    → Outcomes half s actor (command.Check t) reply used s' → reply ≢ says.Fault → reply ≢ says.Memory
    → reply ≡ says.Check (check_reply half s t)
row_says half s actor t says.Fault used s' o fault memory = absurd (fault refl)
row_says half s actor t says.Memory used s' o fault memory = absurd (memory refl)
row_says half s actor t (says.Clash h old new) used s' o fault memory = absurd o.0
row_says half s actor t (says.ZeroHash form) used s' o fault memory = absurd o.0
row_says half s actor t reply used s' o fault memory = o.says

-- a check is complete exactly where the ledger is
pub complete_exactly : (half : Half) (s s' : State) (actor : ℕ) (t : Hash) (a : Acquiring) (reply : Reply) (used : List Held)
    → get_in hash_cmp s.wanted t ≡ Some a
    → Step half s actor (command.Check t) reply used s' → reply ≢ says.Fault → reply ≢ says.Memory
    → (reply ≡ says.Check check.Complete) ↔ IsComplete half s t a.seq
complete_exactly half s s' actor t a reply used is step fault memory =
    let row : reply ≡ says.Check (check_reply half s t) = row_says half s actor t reply used s' step.outcome fault memory in
    (λ e. checked_complete half s t a is (check_same (sym row ∙ e)), λ c. row ∙ ap says.Check (complete_checks half s t a is c))

-- a step of a check is exact
pub step_exact : (half : Half) (s s' : State) (actor : ℕ) (c : Command) (reply : Reply) (used : List Held)
    → Step half s actor c reply used s' → IsExact half s c reply
step_exact half s s' actor (command.Check t) reply used step =
    λ a is fault memory. complete_exactly half s s' actor t a reply used is step fault memory
step_exact half s s' actor _ reply used step = tt
