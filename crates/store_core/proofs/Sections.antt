-- A section, as the core tells it: what it copied, what it asked, and what its slice is of.
use Rattle.std.proofs.Common.{◌≡◌, inr, ◌≤◌, if◌then◌else◌, ℕ, Bool}
use Rattle.std.proofs.Common.{[]}
use Rattle.std.proofs.Common.{Option, Some, sym, ap, ◌∙◌, subst, arith}
use Rattle.std.specs.FinMap as finite
use Rattle.ledger_spec.specs.Bytes.{Half, Lookup}
use Rattle.copy_walk.specs.Counts.{CopiesAtMost}
use Rattle.ledger_machine.specs.declared.commands.Command.{Command}
use Rattle.ledger_machine.specs.declared.commands.Command.TheVariants as command
use Rattle.ledger_machine.specs.declared.commands.Reply.{Reply}
use Rattle.ledger_machine.specs.declared.commands.Reply.TheVariants as says
use Rattle.ledger_machine.specs.declared.commands.BeginReply.TheVariants as begins
use Rattle.ledger_machine.specs.State.{State}
use Rattle.store_core.specs.Journal.{CoreView}
use Rattle.store_core.specs.Journal as journal
use Rattle.core_machine.specs.Desks.{Desk}
use Rattle.core_machine.specs.Telling.{CountsFrom, most_copied}
use Rattle.std.specs.Prelude.{List, slice_set}
use Rattle.full_below.specs.declared.marks.Marks.{Marks}
use Rattle.ledger_machine.specs.Runs.{next_line}
use Rattle.ledger_machine.specs.declared.commands.Line.{Line}
use Rattle.ledger_machine.specs.declared.journal.Entry.{Entry}
use Rattle.ledger_searches.specs.declared.hunt.Hunt.{Hunt}
use Rattle.ledger_searches.specs.declared.searches.Searches.{Searches}
use Rattle.ledger_searches.specs.Hunting.{hunt_of}
use Rattle.ledger_searches.specs.Sharing.{LeavesOthers}
use Rattle.core_machine.specs.Checking.{AsksFew, IsSliced, SlicesSearch}
use Rattle.core_machine.specs.declared.rotating.Part.{Part}
use Rattle.core_machine.specs.declared.rotating.Part.TheVariants as parts
use Rattle.core_machine.proofs.shared.Sections.{same_number}

-- ---- what is copied
-- and no entry raises it
pub counts_fewer : (c : Command) (reply : Reply) (n n' : ℕ) → CountsFrom c reply n n' → n' ≤ n
counts_fewer command.Begin (says.Begin (begins.Begun seq floor)) n n' counts = omega (arith, counts)
counts_fewer c reply n n' counts = omega (arith, counts)

-- nothing is copied where the writable backend holds what it held
pub same_copied : (n : ℕ) (nodes m : Lookup) → CopiesAtMost n nodes m m
same_copied n nodes m = record { copied = []; few = omega arith; all = λ h is. absurd (is.there is.lacked) }

-- ---- the core
-- a core that is as it was copied nothing
pub core_same : (a : ℕ) (c c' : CoreView) → c' ≡ c → journal.CopiesFew c a c'
core_same a c c' same =
    let nodes = finite.get c.state.nodes in
    let held = finite.get c.written in
    inr (subst (λ (x : CoreView). CopiesAtMost most_copied nodes held (journal.copied_to c x)) (sym same)
    (subst (CopiesAtMost most_copied nodes held)
    (sym (ap (λ (b : Bool). if b then held else finite.get c.archived) (same_number c.state.epoch))) (same_copied most_copied nodes held)))

-- ---- what a section asks the backends
asks_same : (c : Command) (o : Option Hunt) (now gets gets' : ℕ) → gets' ≡ gets → AsksFew c o now gets gets'
asks_same (command.Check t) o now gets gets' same = inr (omega (arith, same))
asks_same c o now gets gets' same = tt

pub asked_none : (a : ℕ) (c c' : CoreView) → c' ≡ c → journal.ChecksFew c a c'
asked_none a c c' same line next = asks_same line.command (hunt_of c.hunts a) c.marks.generation c.gets c'.gets (ap (λ (x : CoreView).
    x.gets) same)

some_line : (l m : Line) → Some l ≡ Some m → l ≡ m
some_line l m e = cc

pub asked_few : (lines : List Line) (entries : List Entry) (a : ℕ) (o : Option Hunt) (now gets gets' : ℕ) (line : Line)
    → next_line lines entries a ≡ Some line → AsksFew line.command o now gets gets'
    → (other : Line) → next_line lines entries a ≡ Some other → AsksFew other.command o now gets gets'
asked_few lines entries a o now gets gets' line next few other is =
    subst (λ (l : Line). AsksFew l.command o now gets gets') (some_line line other (sym next ∙ is)) few

-- ---- a slice, as the core tells it
pub record CutBy (half : Half) (told : Bool) (a : ℕ) (c : Command) (part : Part) (d : Desk) (x : Searches) (d' : Desk) (x' : Searches)
    : Type 0 where
  pub cut : part ≡ parts.Slice
  pub slice : (old new : CoreView) → old.state ≡ d.state → old.slices ≡ d.slices → old.marks ≡ x.marks → old.hunts ≡ x.hunts.items
      → new.slices ≡ d'.slices → new.marks ≡ x'.marks → new.hunts ≡ x'.hunts.items → journal.IsSliceOf half told old a c new

pub slice_of : (half : Half) (told : Bool) (a : ℕ) (c : Command) (part : Part) (d : Desk) (x : Searches) (d' : Desk) (x' : Searches)
    → LeavesOthers a x x' → x'.marks.generation ≡ x.marks.generation → IsSliced half told a c part d x d' x'
    → CutBy half told a c part d x d' x'
slice_of half told a command.Swap part d x d' x' others same is = record {
  cut = is.0.cut;
  slice = λ old new s0 n0 m0 h0 n1 m1 h1. (
    omega (arith, n0, n1, is.0.counted),
    omega (arith, n0, n1, is.0.counted, is.0.few),
    m1 ∙ ap (λ (y : Searches). y.marks) is.1 ∙ sym m0,
    h1 ∙ ap (λ (y : Searches). y.hunts.items) is.1 ∙ sym h0,
  );
}
slice_of half told a (command.Check t) part d x d' x' others same is = record {
  cut = is.0;
  slice = λ old new s0 n0 m0 h0 n1 m1 h1. (
    omega (arith, n0, n1, is.1),
    ap (λ (m : Marks). m.generation) m1 ∙ same ∙ sym (ap (λ (m : Marks). m.generation) m0),
    h1 ∙ others ∙ (λ i. slice_set (sym h0 i) a (hunt_of (sym h1 i) a)),
    λ tells. subst (λ (y : State × List (Option Hunt) × Marks × List (Option Hunt)).
        SlicesSearch half y.0 t (hunt_of y.1 a) y.2 (hunt_of y.3 a)) (λ i. (sym s0 i, sym h0 i, sym m0 i, sym h1 i)) (is.2 tells),
  );
}
slice_of half told a c part d x d' x' others same is = absurd is
