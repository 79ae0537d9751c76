-- What a run prints behind its journal.
use Rattle.std.proofs.Common.{◌≡◌, inl, inr, ℕ, ◌≤◌, Bool, true, false, IsTrue, if◌then◌else◌, [], ◌∷◌, ◌++◌, Option}
use Rattle.std.proofs.Common.{refl, sym, ap, ◌∙◌, subst, arith}
use Rattle.std.proofs.lemmas.Bool.{false≢true}
use Rattle.std.proofs.lemmas.List.{append-nil}
use mathlib.Core.List.{IsPrefix}
use Rattle.ledger_spec.specs.Bytes.{Bytes, Nodes}
use Rattle.ledger_machine.specs.State.{State}
use Rattle.run_io.specs.Bytes.{Wrote, WrotePart}
use Rattle.run_io.proofs.shared.Bytes.{rose_later, wrote_more, wrote_part}
use Rattle.store_core.specs.Journal.{CoreView}
use Rattle.top_call.specs.declared.status.TheConstants.{FINE, SINK_FAILED, STORE_FAILED, CLASHED, NO_MEMORY}
use Rattle.top_call.specs.declared.dump.DumpEnd.{DumpEnd}
use Rattle.top_call.specs.declared.dump.DumpEnd.TheVariants as ends
use Rattle.top_call.specs.Dump.{dump_text, IsDumped, IsUncut, LeavesCore}
use Rattle.top_call.specs.Top.{IsOneOf, text_of, HasPrinted, HasDumped, HasSaid, PrintsMore}
use Rattle.top_call.proofs.Printed.{prefix_self}
use Rattle.top_call.proofs.Dumping.{text_same, none_front}

-- what was printed of a dump, where the store holds the same
dumped_as : (told : Bool) (nodes nodes' : Nodes) (dump : DumpEnd) (text : Bytes) → (IsTrue told → nodes' ≡ nodes)
    → IsDumped told nodes dump text
    → IsDumped told nodes' dump text
dumped_as told nodes nodes' ends.NotAsked text same is = is
dumped_as told nodes nodes' ends.Whole text same is = (is.0, λ t. is.1 t ∙ ap dump_text (sym (same t)))
dumped_as told nodes nodes' ends.Faulted text same is =
    (is.0, λ t. subst (λ (n : Nodes). IsPrefix text (dump_text n)) (sym (same t)) (is.1 t))
dumped_as told nodes nodes' ends.Cut text same is =
    (is.0, λ t. subst (λ (n : Nodes). IsPrefix text (dump_text n)) (sym (same t)) (is.1 t))

-- behind the text of the journal
pub printed_behind : (told quiet asked : Bool) (c c' : CoreView) (held mid now : Option Bytes) (n : ℕ) (dump : DumpEnd)
    → LeavesCore told c c'
    → Wrote held mid (text_of quiet c) → PrintsMore told c.state.nodes mid now n dump → HasDumped asked n dump c'
    → HasPrinted told quiet asked held now n dump c'
printed_behind told quiet asked c c' held mid now n dump lists wrote more dumped =
    let same : text_of quiet c' ≡ text_of quiet c = text_same told quiet c c' lists in
    let first : Wrote held mid (text_of quiet c') = subst (Wrote held mid) (sym same) wrote in
    let nodes : IsTrue told → c'.state.nodes ≡ c.state.nodes = λ t. ap (λ (s : State). s.nodes) (lists.state t) in
    record {
      whole = λ one.
          let m = more.whole one in
          let text = text_of quiet c' in
          (m.0, dumped_as told c.state.nodes c'.state.nodes dump m.0 nodes m.1, wrote_more held mid now text m.0 first m.2);
      uncut = λ ended.
          let m = more.uncut ended in
          let text = text_of quiet c' in
          (m.0, dumped_as told c.state.nodes c'.state.nodes dump m.0 nodes m.1, wrote_more held mid now text m.0 first m.2);
      part =
          let m = more.part in (
            m.0,
            dumped_as told c.state.nodes c'.state.nodes dump m.0 nodes m.1,
            wrote_part held mid now (text_of quiet c') m.0 (text_of quiet c' ++ m.0) first m.2
                (prefix_self (text_of quiet c' ++ m.0) (text_of quiet c' ++ m.0) refl),
          );
      dumped = dumped;
    }

-- a dump of which nothing was printed
none_dumped : (told : Bool) (nodes : Nodes) (asked : Bool) → IsDumped told nodes (if asked then ends.Cut else ends.NotAsked) []
none_dumped told nodes true = (none_front, λ t. (dump_text nodes, refl))
none_dumped told nodes false = refl

-- nothing was missed, and the dump was cut where one was asked for
cut_or_none : (asked : Bool) (n : ℕ) (c : CoreView) → IsOneOf n (SINK_FAILED ∷ NO_MEMORY ∷ []) → c.missed ≡ 0
    → HasDumped asked n (if asked then ends.Cut else ends.NotAsked) c
cut_or_none true n c one missed = record {
  not_asked = ((λ e. absurd (other e)), (λ none. absurd (none refl)));
  faulted = ((λ e. absurd (faulted e)), (λ some. absurd (omega (arith, missed, some))));
  cut = λ e. one;
  own = λ u. absurd u;
}
  where
    other : ends.Cut ≡ ends.NotAsked → ⊥
    other e = cc

    faulted : ends.Cut ≡ ends.Faulted → ⊥
    faulted e = cc
cut_or_none false n c one missed = record {
  not_asked = ((λ e. λ t. false≢true t), (λ none. refl));
  faulted = ((λ e. absurd (faulted e)), (λ some. absurd (omega (arith, missed, some))));
  cut = λ e. absurd (cut e);
  own = λ u. absurd u;
}
  where
    faulted : ends.NotAsked ≡ ends.Faulted → ⊥
    faulted e = cc

    cut : ends.NotAsked ≡ ends.Cut → ⊥
    cut e = cc

-- a dump of which nothing was printed is no whole one
unprinted : (asked : Bool) → IsUncut (if asked then ends.Cut else ends.NotAsked) → ⊥
unprinted true u = u
unprinted false u = u

-- where the journal was printed in part
pub printed_part : (told : Bool) (c : CoreView) (held now : Option Bytes) (n : ℕ) (quiet asked : Bool) (dump : DumpEnd)
    → dump ≡ (if asked then ends.Cut else ends.NotAsked) → (IsOneOf n (FINE ∷ STORE_FAILED ∷ CLASHED ∷ []) → ⊥)
    → IsOneOf n (SINK_FAILED ∷ NO_MEMORY ∷ []) → c.missed ≡ 0
    → WrotePart held now (text_of quiet c) → HasPrinted told quiet asked held now n dump c
printed_part told c held now n quiet asked dump is other one missed part =
    let none : IsDumped told c.state.nodes dump [] = subst (λ (d : DumpEnd). IsDumped told c.state.nodes d []) (sym is)
    (none_dumped told c.state.nodes asked) in
    record {
      whole = λ one. absurd (other one);
      uncut = λ ended. absurd (unprinted asked (subst (λ (d : DumpEnd). IsUncut d) is ended));
      part = ([], none, subst (WrotePart held now) (sym (append-nil (text_of quiet c))) part);
      dumped = subst (λ (d : DumpEnd). HasDumped asked n d c) (sym is) (cut_or_none asked n c one missed);
    }

pub not_sink : (n : ℕ) → n ≡ SINK_FAILED → IsOneOf n (FINE ∷ STORE_FAILED ∷ CLASHED ∷ []) → ⊥
not_sink n is one =
    let no : IsOneOf SINK_FAILED (FINE ∷ STORE_FAILED ∷ CLASHED ∷ []) =
    subst (λ m. IsOneOf m (FINE ∷ STORE_FAILED ∷ CLASHED ∷ [])) is one in
    cc

pub not_memory : (n : ℕ) → n ≡ NO_MEMORY → IsOneOf n (FINE ∷ STORE_FAILED ∷ CLASHED ∷ []) → ⊥
not_memory n is one =
    let no : IsOneOf NO_MEMORY (FINE ∷ STORE_FAILED ∷ CLASHED ∷ []) = subst (λ m. IsOneOf m (FINE ∷ STORE_FAILED ∷ CLASHED ∷ [])) is one in
    cc

-- a count that rose since a later time rose
pub said_later : (n : ℕ) (c : CoreView) (before mid now : ℕ) → before ≤ mid → HasSaid n c mid now → HasSaid n c before now
said_later n c before mid now later (inl own) = inl own
said_later n c before mid now later (inr (inl sink)) = inr (inl (sink.0, rose_later before mid now later sink.1))
said_later n c before mid now later (inr (inr memory)) = inr (inr memory)
