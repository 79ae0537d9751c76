-- A ledger that a check calls complete is whole, and listing it keeps a state sound.
use Rattle.std.proofs.Common.{◌≡◌, ◌⊎◌, inl, inr, ⊎_elim, ◌≤◌, ℕ, suc, Bool, true, false, not, if◌then◌else◌, ◌==◌, ◌&&◌, nat_lt}
use Rattle.std.proofs.Common.{List, [], ◌∷◌, ◌++◌, Option, None, Some, Contains, filter_map, refl, sym, ap, ◌∙◌, subst, IsSomeAnd}
use Rattle.std.proofs.Common.{IsTrue}
use Rattle.std.specs.Option.{option_map, option_map_or, option_and_then}
use Rattle.std.specs.Map.{keys_of, values_of}
use Rattle.std.proofs.lemmas.Bool.{ltb-false, eqb-true}
use Rattle.std.proofs.lemmas.List.Elements.{Contains-append_cases, Contains-append_left}
use Rattle.std.proofs.lemmas.List.Elements.{Contains-append_right}
use Rattle.ledger_spec.specs.Maps.{hash_cmp, get_in, insert_in}
use Rattle.ledger_spec.specs.declared.Place.{Place}
use Rattle.ledger_spec.specs.declared.Place.TheVariants.{Header}
use Rattle.ledger_spec.specs.declared.ShapeFault.{ShapeFault}
use Rattle.ledger_spec.specs.Bytes.{Bytes, Hash, Half, Lookup, is_zero, is_nonzero}
use Rattle.ledger_spec.specs.Header.{seq_of, state_root_of}
use Rattle.ledger_spec.specs.Forms.{header_of, Held}
use Rattle.ledger_spec.specs.Spots.{header_in}
use Rattle.ledger_spec.specs.Findings.{Finding, lacks, breaks, findings, up_to, Whole}
use Rattle.ledger_spec.proofs.shared.Growth.{found, met, no_cons, whole_stored}
use Rattle.ledger_spec.specs.declared.replies.CheckReply.{CheckReply}
use Rattle.ledger_spec.specs.declared.replies.CheckReply.TheVariants as check
use Rattle.ledger_machine.specs.State.{State, form_in, retained, bases, ended, listed_with, stored_seq}
use Rattle.ledger_machine.specs.Check.{told_by, verdict_of, check_given, check_reply, after_check}
use Rattle.ledger_spec.specs.Replies.{check_said}
use Rattle.ledger_spec.specs.declared.peers.Ask.{Ask}
use Rattle.ledger_spec.specs.declared.peers.Ask.TheVariants as asks
use Rattle.ledger_spec.specs.Peers.{Peers}
use Rattle.ledger_spec.specs.Acquiring.{Acquiring, Verdict, complete, incomplete, seq_differs, zero_state, below_floor, malformed}
use Rattle.ledger_spec.specs.Acquiring.{place_verdict, header_verdict, after_verdict}
use Rattle.ledger_spec.specs.Findings.{missing_of, first_broken, seen, header_or_foreign, header_sight, maps_of, walk_ledger}
use Rattle.ledger_machine.specs.Sound.{Sound, IsWholeLedger}
use Rattle.ledger_machine.specs.Complete.{IsAcceptable}
use Rattle.ledger_machine.specs.declared.commands.Command.TheVariants as command
use Rattle.ledger_machine.specs.declared.commands.Reply.{Reply}
use Rattle.ledger_machine.specs.declared.commands.Reply.TheVariants as says
use Rattle.ledger_machine.specs.Steps.{Step}
use Rattle.std.specs.Cmp.Lexicographic.{nat_list_cmp_total}
use Rattle.ledger_laws.proofs.SoundTables.{insert_rises}
use Rattle.ledger_laws.proofs.SoundKeeps.{keeps_sound, with_wanted_keeps, ended_keeps, gives_same}
use Rattle.ledger_laws.proofs.shared.SoundCheck.{get_inserted, key_inserted}
use Rattle.ledger_laws.proofs.shared.SoundForms.{refused_none}
use Rattle.ledger_laws.proofs.shared.SoundSteps.{outcome_cases}

-- a verdict that is answered `complete` is complete
said_complete : (v : Verdict) → check_said v ≡ check.Complete → v ≡ complete
said_complete complete e = refl
said_complete (incomplete (asks.Send p places)) e = cc
said_complete (incomplete (asks.Waiting n)) e = cc
said_complete (incomplete asks.NoPeer) e = cc
said_complete (seq_differs asked found) e = cc
said_complete zero_state e = cc
said_complete (below_floor floor) e = cc
said_complete (malformed place fault) e = cc

-- missing places aren't complete
incomplete_ends : {ask : Ask} → incomplete ask ≡ complete → ⊥
incomplete_ends e = cc

-- a malformed ledger isn't complete
malformed_ends : {place : Place} {fault : ShapeFault} → malformed place fault ≡ complete → ⊥
malformed_ends e = cc

-- nor is a search that lacks a place
lacks_goes_on : (s : Peers) (place : Place) (places : List Place) (b : Option (Place × ShapeFault))
    → place_verdict s b (place ∷ places) ≡ complete → ⊥
lacks_goes_on s place places (Some b) e = malformed_ends e
lacks_goes_on s place places None e = incomplete_ends e

-- a search that is complete has found nothing
pub search_complete : (s : Peers) (found : List Finding) → place_verdict s (first_broken found) (filter_map missing_of found) ≡ complete
    → found ≡ []
search_complete s [] e = refl
search_complete s (lacks place ∷ rest) e = absurd (lacks_goes_on s place (filter_map missing_of rest) (first_broken rest) e)
search_complete s (breaks place fault ∷ rest) e = absurd (malformed_ends e)

-- where there is room, a front with nothing in it is of a list with nothing in it
pub up_to_none : (room : ℕ) (found : List Finding) → up_to (suc room) found ≡ [] → found ≡ []
up_to_none room [] e = refl
up_to_none room (lacks place ∷ rest) e = absurd (no_cons e)
up_to_none room (breaks place fault ∷ rest) e = absurd (no_cons e)

-- a verdict that is complete passed each test before it
tests_complete : (a b c : Bool) (x y z rest : Verdict) → (x ≡ complete → ⊥) → (y ≡ complete → ⊥) → (z ≡ complete → ⊥)
    → (if a then x else if b then y else if c then z else rest) ≡ complete → (a ≡ false) × (b ≡ false) × (c ≡ false)
    × (rest ≡ complete)
tests_complete true b c x y z rest nx ny nz e = absurd (nx e)
tests_complete false true c x y z rest nx ny nz e = absurd (ny e)
tests_complete false false true x y z rest nx ny nz e = absurd (nz e)
tests_complete false false false x y z rest nx ny nz e = (refl, refl, refl, e)

-- another sequence isn't complete
differs_ends : {asked found : ℕ} → seq_differs asked found ≡ complete → ⊥
differs_ends e = cc

-- an empty state map isn't complete
zero_ends : zero_state ≡ complete → ⊥
zero_ends e = cc

-- a ledger below the floor isn't complete
below_ends : {floor : ℕ} → below_floor floor ≡ complete → ⊥
below_ends e = cc

-- what isn't open isn't complete
not_open_ends : check.NotOpen ≡ check.Complete → ⊥
not_open_ends e = cc

-- any sequence was asked for, or this one
asked_for : (a b : Bool) → (not a && not b) ≡ false → (a ≡ true) ⊎ (b ≡ true)
asked_for true b e = inl refl
asked_for false true e = inr refl
asked_for false false e = cc

-- a header that lets a check be complete is acceptable
pub header_complete : (asked floor : ℕ) (h : Bytes) (rest : Verdict)
    → header_verdict asked floor (seq_of h) (state_root_of h) rest ≡ complete
    → IsAcceptable asked floor h × (rest ≡ complete)
header_complete asked floor h rest e =
    let open_ : ((not (asked == 0) && not (asked == seq_of h)) ≡ false) × (is_zero (state_root_of h) ≡ false)
    × (nat_lt (seq_of h) floor ≡ false) × (rest ≡ complete) =
    tests_complete (not (asked == 0) && not (asked == seq_of h)) (is_zero (state_root_of h)) (nat_lt (seq_of h) floor)
    (seq_differs asked (seq_of h)) zero_state (below_floor floor) rest differs_ends
    zero_ends below_ends e in (
      record {
        seq = ⊎_elim (λ any. inl (eqb-true asked 0 any)) (λ own. inr (eqb-true asked (seq_of h) own))
            (asked_for (asked == 0) (asked == seq_of h) open_.0);
        state = ap not open_.1;
        recent = ltb-false (seq_of h) floor open_.2;
      },
      open_.3,
    )

-- a whole ledger has a header in the store
whole_header : (half : Half) (m : Lookup) (t : Hash) → Whole half m t → header_in m t ≡ None → ⊥
unfolding walk_ledger
whole_header half m t whole none = at (m t) refl none
  where
    foreign : (o : Option Bytes) (form : Bytes) → header_of form ≡ None
        → filter_map found (met Header t None (header_sight (Some form)) ∷ maps_of half m (header_sight (Some form))) ≡ [] → ⊥
    foreign o form is e =
        no_cons (sym (ap (λ h. filter_map found (met Header t None (header_or_foreign h) ∷ maps_of half m (header_or_foreign h))) is) ∙ e)

    at : (o : Option Bytes) → m t ≡ o → option_and_then header_of o ≡ None → ⊥
    at None is e = whole_stored half m t whole is
    at (Some form) is e =
        foreign None form e
        (sym (ap (λ o. filter_map found (met Header t None (header_sight o) ∷ maps_of half m (header_sight o))) is) ∙ whole)

-- what is whole, with an acceptable header
pub record IsWholeFor (half : Half) (s : State) (t : Hash) (a : Acquiring) : Type 0 where
  pub whole : Whole half (form_in s) t
  pub header : IsSomeAnd (header_in (form_in s) t) (IsAcceptable a.seq s.floor)

-- a complete check, given the acquisition
pub given_complete : (half : Half) (s : State) (t : Hash) (a : Acquiring) → verdict_of half s t a ≡ complete → IsWholeFor half s t a
given_complete half s t a e =
    let both : IsSomeAnd (header_in (form_in s) t) (IsAcceptable a.seq s.floor) × (places ≡ complete) =
    at (header_in (form_in s) t) refl e in
    record { whole = all both.1; header = both.0 }
  where
    places : Verdict
    places = place_verdict a.peers (first_broken (seen half (form_in s) t)) (filter_map missing_of (seen half (form_in s) t))

    all : places ≡ complete → Whole half (form_in s) t
    all e = up_to_none 255 (findings half (form_in s) t) (search_complete a.peers _ e)

    at : (o : Option Bytes) → header_in (form_in s) t ≡ o
        → option_map_or (λ (h : ℕ × Hash). header_verdict a.seq s.floor h.0 h.1 places) (option_map told_by o) places ≡ complete
        → IsSomeAnd o (IsAcceptable a.seq s.floor) × (places ≡ complete)
    at None is e = absurd (whole_header half (form_in s) t (all e) is)
    at (Some h) is e = header_complete a.seq s.floor h places e

-- a complete ledger is open, whole, and acceptable for what was asked
pub check_complete : (half : Half) (s : State) (t : Hash) → check_reply half s t ≡ check.Complete
    → (a : Acquiring) × (get_in hash_cmp s.wanted t ≡ Some a) × IsWholeFor half s t a
check_complete half s t e = at (get_in hash_cmp s.wanted t) refl e
  where
    at : (o : Option Acquiring) → get_in hash_cmp s.wanted t ≡ o → check_given half s t o ≡ check.Complete
        → (a : Acquiring) × (get_in hash_cmp s.wanted t ≡ Some a) × IsWholeFor half s t a
    at None is e = absurd (not_open_ends e)
    at (Some a) is e = (a, is, given_complete half s t a (said_complete (verdict_of half s t a) e))

-- the ledgers retained once one more is listed
pub retained_more : (s : State) (t : Hash) (seq : ℕ) (u : Hash) → Contains (retained (ended (listed_with s t seq) t)) u
    → (u ≡ t) ⊎ Contains (retained s) u
retained_more s t seq u c =
    let keys : List Hash = keys_of s.listed in
    let pinned : List Hash = values_of s.views in
    ⊎_elim
    (λ front. ⊎_elim
    (λ listed. ⊎_elim (λ same. inl same)
    (λ old. inr (Contains-append_left (keys ++ pinned) (bases s) u (Contains-append_left keys pinned u old)))
    (key_inserted s.listed t seq u listed))
    (λ viewed. inr (Contains-append_left (keys ++ pinned) (bases s) u (Contains-append_right keys pinned u viewed)))
    (Contains-append_cases (keys_of (insert_in hash_cmp s.listed t seq)) pinned u front))
    (λ edited. inr (Contains-append_right (keys ++ pinned) (bases s) u edited))
    (Contains-append_cases (keys_of (insert_in hash_cmp s.listed t seq) ++ pinned) (bases s) u c)

-- a whole ledger may be listed
pub listed_sound : (half : Half) (s : State) (t : Hash) (seq : ℕ) → Sound half s → IsWholeLedger half (form_in s) t → s.floor ≤ seq
    → IsSomeAnd (header_in (form_in s) t) (λ h. seq_of h ≡ seq) → Sound half (listed_with s t seq)
listed_sound half s t seq sound whole above same = record {
  forms = sound.forms;
  retained_whole = λ u c. ⊎_elim (λ (e : u ≡ t). subst (λ x. IsWholeLedger half (form_in s) x) (sym e) whole)
      (λ old. sound.retained_whole u old) (retained_more s t seq u c);
  listed_seq = λ u n e. ⊎_elim
      (λ (new : (u ≡ t) × (n ≡ seq)). (
        subst (λ x. s.floor ≤ x) (sym new.1) above,
        subst (λ x. IsSomeAnd (header_in (form_in s) x) (λ h. seq_of h ≡ n)) (sym new.0)
            (subst (λ x. IsSomeAnd (header_in (form_in s) t) (λ h. seq_of h ≡ x)) (sym new.1) same),
      ))
      (λ old. sound.listed_seq u n old) (get_inserted s.listed t seq u n e);
  base_seq = sound.base_seq;
  tables = record {
    listed = insert_rises nat_list_cmp_total s.listed t seq sound.tables.listed;
    wanted = sound.tables.wanted;
    charges = sound.tables.charges;
    views = sound.tables.views;
    sessions = sound.tables.sessions;
    edits = sound.tables.edits;
  };
}

-- the stored sequence of an acceptable header
pub stored_seq_fits : (asked floor : ℕ) (o : Option Bytes) → IsSomeAnd o (IsAcceptable asked floor)
    → IsSomeAnd o (λ h. IsTrue (is_nonzero (state_root_of h))) × (floor ≤ option_map_or seq_of o 0)
    × IsSomeAnd o (λ h. seq_of h ≡ option_map_or seq_of o 0)
stored_seq_fits asked floor None some = absurd some
stored_seq_fits asked floor (Some h) some = (some.state, some.recent, refl)

-- the state after a complete ledger is sound
pub complete_sound : (half : Half) (s : State) (t : Hash) → Sound half s → check_reply half s t ≡ check.Complete
    → Sound half (ended (listed_with s t (stored_seq s t)) t)
complete_sound half s t sound e =
    let is : (a : Acquiring) × (get_in hash_cmp s.wanted t ≡ Some a) × IsWholeFor half s t a = check_complete half s t e in
    let fits : IsSomeAnd (header_in (form_in s) t) (λ h. IsTrue (is_nonzero (state_root_of h))) × (s.floor ≤ stored_seq s t)
    × IsSomeAnd (header_in (form_in s) t) (λ h. seq_of h ≡ stored_seq s t) =
    stored_seq_fits is.0.seq s.floor (header_in (form_in s) t) is.2.header in
    let listed : State = listed_with s t (stored_seq s t) in
    keeps_sound half listed (ended listed t)
    (listed_sound half s t (stored_seq s t) sound (record { header = fits.0; whole = is.2.whole }) fits.1 fits.2)
    (ended_keeps half listed t)

-- each answer of a check leaves a sound state
pub check_sound : (half : Half) (s : State) (t : Hash) (r : CheckReply) → check_reply half s t ≡ r → Sound half s
    → Sound half (after_check s t (stored_seq s t) r)
check_sound half s t check.Complete e sound = complete_sound half s t sound e
check_sound half s t (check.Need peer places) e sound =
    keeps_sound half s _ sound (with_wanted_keeps half s t (λ a. after_verdict a (incomplete (asks.Send peer places))) (λ a rises. rises))
check_sound half s t (check.SeqDiffers asked found) e sound = keeps_sound half s _ sound (ended_keeps half s t)
check_sound half s t check.ZeroState e sound = keeps_sound half s _ sound (ended_keeps half s t)
check_sound half s t (check.BelowFloor floor) e sound = keeps_sound half s _ sound (ended_keeps half s t)
check_sound half s t (check.Malformed place rule) e sound = keeps_sound half s _ sound (ended_keeps half s t)
check_sound half s t (check.Waiting n) e sound = sound
check_sound half s t check.NoPeer e sound = sound
check_sound half s t check.NotOpen e sound = sound

-- a step of `check`
pub check_step_sound : (half : Half) (s s' : State) (a : ℕ) (t : Hash) (reply : Reply) (used : List Held) → Sound half s
    → Step half s a (command.Check t) reply used s' → Sound half s'
check_step_sound half s s' a t reply used sound step =
    ⊎_elim (λ r. keeps_sound half s s' sound (refused_none half s a (command.Check t) s' refl r))
    (λ g. gives_same half (after_check s t (stored_seq s t) (check_reply half s t)) s' (says.Check (check_reply half s t)) reply
    (check_sound half s t (check_reply half s t) refl sound) g)
    (outcome_cases half s a (command.Check t) reply used s' step.outcome)
