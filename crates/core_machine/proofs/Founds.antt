-- What a search of a ledger finds decides a check as the machine's row does.
use Rattle.std.proofs.Common.{◌≡◌, ℕ, Option, None, Some, IfSome, refl, sym, ap, ◌∙◌, subst}
use Rattle.std.specs.Option.{option_map, option_map_or}
use Rattle.std.specs.FinMap as map
use Rattle.ledger_spec.specs.Bytes.{Bytes, Hash, Half, Lookup, Nodes}
use Rattle.ledger_spec.specs.Maps.{hash_cmp, get_in, set_in}
use Rattle.ledger_spec.specs.Own.{AreStored, own_forms}
use Rattle.ledger_spec.specs.Header.{seq_of, header_bytes}
use Rattle.ledger_spec.specs.Spots.{header_in}
use Rattle.ledger_spec.specs.Findings.{seen, first_broken}
use Rattle.ledger_spec.specs.declared.peers.Ask.TheVariants as asks
use Rattle.ledger_spec.specs.Acquiring.{Acquiring, Verdict, complete, incomplete, seq_differs, zero_state, below_floor, malformed}
use Rattle.ledger_spec.specs.Acquiring.{check_verdict, after_verdict}
use Rattle.ledger_spec.proofs.shared.Owning.{all_own}
use Rattle.ledger_header.specs.declared.Header.{Header as Head}
use Rattle.ledger_header.specs.Fields.{fields, Reads}
use Rattle.missing_walk.specs.declared.Found.{Found}
use Rattle.missing_walk.specs.Sees.{Finds}
use Rattle.rotating_store.specs.Stores.{Store, nodes_of}
use Rattle.acquire_core.specs.Replies as acquire
use Rattle.ledger_spec.specs.declared.replies.CheckReply.{CheckReply}
use Rattle.ledger_spec.specs.declared.replies.CheckReply.TheVariants as check
use Rattle.ledger_spec.specs.Replies.{check_said}
use Rattle.ledger_machine.specs.State.{State, form_in, stored_seq, with_wanted, ended, listed_with}
use Rattle.ledger_machine.specs.Check.{told_by, verdict_of, check_given, check_reply, after_check}
use Rattle.core_machine.specs.Wanting.{judged_by, found_seq, settled}
use Rattle.core_machine.proofs.shared.States.{set_same}
use Rattle.core_machine.proofs.shared.Entries.{IsOver, filed_over}

-- what a header that was read tells is what its bytes tell
told_is : (head : Option Head) (o : Option Bytes) → option_map (λ (h : Head). header_bytes (fields h)) head ≡ o
    → IfSome head (λ h. Reads (header_bytes (fields h)) h) → option_map acquire.told_by head ≡ option_map told_by o
told_is None o e reads = ap (option_map told_by) e
told_is (Some h) o e reads = (λ i. Some (sym reads.seq i, sym reads.state_root i)) ∙ ap (option_map told_by) e

-- so what was found comes to what is stored
verdict_is : (half : Half) (s : State) (t : Hash) (a : Acquiring) (found : Found) → Finds half (form_in s) t found
    → acquire.found_verdict a s.floor found ≡ verdict_of half s t a
verdict_is half s t a found finds =
    ap (λ h. check_verdict a s.floor h found.broken found.missing)
    (told_is found.header (header_in (form_in s) t) finds.header.bytes finds.header.reads)
    ∙ ap (λ b. check_verdict a s.floor (option_map told_by (header_in (form_in s) t)) b found.missing) finds.broken
    ∙ ap (check_verdict a s.floor (option_map told_by (header_in (form_in s) t)) (first_broken (seen half (form_in s) t))) finds.missing

-- the machine's row is answered
pub check_found : (half : Half) (s : State) (t : Hash) (found : Found) → Finds half (form_in s) t found
    → judged_by (get_in hash_cmp s.wanted t) s.floor found ≡ check_reply half s t
check_found half s t found finds = at (get_in hash_cmp s.wanted t)
  where
    at : (o : Option Acquiring) → judged_by o s.floor found ≡ check_given half s t o
    at None = refl
    at (Some a) = ap check_said (verdict_is half s t a found finds)

seq_by : (head : Option Head) (o : Option Bytes) → option_map (λ (h : Head). header_bytes (fields h)) head ≡ o
    → IfSome head (λ h. Reads (header_bytes (fields h)) h) → option_map_or (λ (h : Head). h.seq) head 0 ≡ option_map_or seq_of o 0
seq_by None o e reads = ap (λ x. option_map_or seq_of x 0) e
seq_by (Some h) o e reads = sym reads.seq ∙ ap (λ x. option_map_or seq_of x 0) e

pub found_seq_is : (half : Half) (s : State) (t : Hash) (found : Found) → Finds half (form_in s) t found → found_seq found ≡ stored_seq s t
found_seq_is half s t found finds = seq_by found.header (header_in (form_in s) t) finds.header.bytes finds.header.reads

-- what is read of a store whose forms all stand under their own hashes
pub finds_own : (half : Half) (st : Store) (s : State) (t : Hash) (found : Found) → IsOver st s → AreStored half (form_in s)
    → Finds half (own_forms half (map.get (nodes_of st))) t found → Finds half (form_in s) t found
finds_own half st s t found is all finds =
    subst (λ (n : Lookup). Finds half n t found)
    (all_own half (map.get (nodes_of st)) (filed_over half st s is all) ∙ ap (λ (n : Nodes). map.get n) (sym is.nodes)) finds

-- a change that changes nothing
with_same : (s : State) (t : Hash) (a : Acquiring) (f : Acquiring → Acquiring) → get_in hash_cmp s.wanted t ≡ Some a → f a ≡ a
    → with_wanted s t f ≡ s
with_same s t a f at same =
    (rw at refl) ∙ ap (λ (x : Acquiring). record s { wanted = set_in hash_cmp s.wanted t x }) same
    ∙ ap (λ m. record s { wanted = m }) (set_same _ s.wanted a at)

-- what an acquisition's answer ends is what the machine's ends
settled_at : (s : State) (t : Hash) (seq : ℕ) (a : Acquiring) (v : Verdict) → get_in hash_cmp s.wanted t ≡ Some a
    → settled (with_wanted s t (λ x. after_verdict x v)) t seq (check_said v) ≡ after_check s t seq (check_said v)
settled_at s t seq a complete at = ap (λ (x : State). ended (listed_with x t seq) t) (with_same s t a (λ x. x) at refl)
settled_at s t seq a (incomplete (asks.Send p places)) at = refl
settled_at s t seq a (incomplete (asks.Waiting n)) at = with_same s t a (λ x. x) at refl
settled_at s t seq a (incomplete asks.NoPeer) at = with_same s t a (λ x. x) at refl
settled_at s t seq a (seq_differs asked found) at = ap (λ (x : State). ended x t) (with_same s t a (λ x. x) at refl)
settled_at s t seq a zero_state at = ap (λ (x : State). ended x t) (with_same s t a (λ x. x) at refl)
settled_at s t seq a (below_floor floor) at = ap (λ (x : State). ended x t) (with_same s t a (λ x. x) at refl)
settled_at s t seq a (malformed place fault) at = ap (λ (x : State). ended x t) (with_same s t a (λ x. x) at refl)

module _ (s : State) (t : Hash) (floor : ℕ) (found : Found) where
  abbrev judged : Acquiring → Acquiring
  judged x = after_verdict x (acquire.found_verdict x floor found)

  -- the state after a check that was settled
  pub check_settled : (s1 s2 : State) (seq : ℕ) (r : CheckReply) → r ≡ judged_by (get_in hash_cmp s.wanted t) floor found
      → s1 ≡ with_wanted s t judged → s2 ≡ settled s1 t seq r → s2 ≡ after_check s t seq r
  check_settled s1 s2 seq r is asked ends =
      ends ∙ ap (settled s1 t seq) is ∙ ap (λ x. settled x t seq (judged_by (get_in hash_cmp s.wanted t) floor found)) asked
      ∙ at (get_in hash_cmp s.wanted t) refl ∙ sym (ap (after_check s t seq) is)
    where
      at : (o : Option Acquiring) → get_in hash_cmp s.wanted t ≡ o
          → settled (with_wanted s t judged) t seq (judged_by o floor found) ≡ after_check s t seq (judged_by o floor found)
      at None none = rw none refl
      at (Some a) open_ =
          let v : Verdict = acquire.found_verdict a floor found in
          let one : with_wanted s t judged ≡ with_wanted s t (λ x. after_verdict x v) = rw open_ refl in
          ap (λ x. settled x t seq (check_said v)) one ∙ settled_at s t seq a v open_

  -- an acquisition whose ledger is complete stays until it is listed
  pub check_unsettled : (s1 : State) (r : CheckReply) → r ≡ judged_by (get_in hash_cmp s.wanted t) floor found
      → s1 ≡ with_wanted s t judged → r ≡ check.Complete → s1 ≡ s
  check_unsettled s1 r is asked whole = asked ∙ at (get_in hash_cmp s.wanted t) refl (sym is ∙ whole)
    where
      kept : (a : Acquiring) (v : Verdict) → check_said v ≡ check.Complete → after_verdict a v ≡ a
      kept a complete e = refl
      kept a (incomplete (asks.Send p places)) e = cc
      kept a (incomplete (asks.Waiting n)) e = cc
      kept a (incomplete asks.NoPeer) e = cc
      kept a (seq_differs asked found) e = cc
      kept a zero_state e = cc
      kept a (below_floor floor) e = cc
      kept a (malformed place fault) e = cc

      at : (o : Option Acquiring) → get_in hash_cmp s.wanted t ≡ o → judged_by o floor found ≡ check.Complete
          → with_wanted s t judged ≡ s
      at None none e = cc
      at (Some a) open_ e = with_same s t a judged open_ (kept a (acquire.found_verdict a floor found) e)
