-- What the machine tells a rotation, beside the open sessions.
use Rattle.std.proofs.Common.{◌≡◌, inl, inr, ⊎_elim, ℕ, Bool, true, false, IsTrue, List, [], Contains, Result, Ok, Err, IfOk, OnErr}
use Rattle.std.proofs.Common.{refl, sym, ap, ◌∙◌, subst}
use Rattle.half_hash.specs.declared.bytes.Memory.{Memory}
use Rattle.node_backend.specs.declared.back.BackFault.{BackFault}
use Rattle.std.specs.List.{All}
use Rattle.std.specs.Map.{keys_of, values_of}
use Rattle.std.proofs.lemmas.List.Elements.{All-nil, Contains-get_or}
use Rattle.ledger_spec.specs.Bytes.{Hash, Half}
use Rattle.ledger_spec.specs.Maps.{ForActor}
use Rattle.ledger_spec.specs.Own.{AreStored}
use Rattle.edit_session.specs.Drafts.{Draft, StaysOverParent}
use Rattle.ledger_machine.specs.declared.commands.BeginReply.{BeginReply}
use Rattle.ledger_machine.specs.declared.commands.BeginReply.TheVariants as begins
use Rattle.ledger_machine.specs.declared.commands.SwapReply.{SwapReply}
use Rattle.open_sessions.specs.Rows.{AllKept}
use Rattle.ledger_machine.specs.declared.commands.Command.{Command}
use Rattle.ledger_machine.specs.declared.commands.Command.TheVariants as command
use Rattle.ledger_machine.specs.declared.commands.WantReply.TheVariants as want
use Rattle.ledger_machine.specs.declared.commands.Reply.{Reply}
use Rattle.ledger_machine.specs.declared.commands.Reply.TheVariants as says
use Rattle.ledger_machine.specs.Rotation.{after_begin}
use Rattle.ledger_machine.specs.Rotation.{Tells}
use Rattle.ledger_machine.specs.Commands.{IsBeside, IsSteady}
use Rattle.ledger_machine.specs.State.{State, Session, form_in, roots, bases, with_sessions}
use Rattle.ledger_machine.specs.Steps.{IsAfter, own_hashes}
use Rattle.open_sessions.specs.Edited.{sessions_in}
use Rattle.core_machine.specs.Machines.{told_forms, with_open, KeepsDrafts}
use Rattle.core_machine.specs.Desks.{Desk, KeepsRest}
use Rattle.core_machine.specs.Commands.{TellsRoot}
use Rattle.core_machine.specs.Telling.{AreTold, BeginsBy, AfterSwap, CopiesBy, CountsSlice}
use Rattle.copy_walk.specs.declared.walk.Left.{Left}
use Rattle.ledger_searches.specs.declared.searches.Searches.{Searches}
use Rattle.ledger_searches.specs.Hunting.{hunt_of}
use Rattle.missing_walk.specs.declared.fault.SearchFault.{SearchFault}
use Rattle.core_machine.specs.Checking.{IsSought, LeavesSearch}
use Rattle.core_machine.specs.Serving.{Seeks}
use Rattle.core_machine.specs.declared.acquiring.Sought.{Sought}
use Rattle.core_machine.specs.declared.acquiring.Sought.TheVariants as sought
use Rattle.core_machine.specs.declared.rotating.Part.{Part}
use Rattle.core_machine.proofs.Machines.{keeps_same, reads_beside}
use Rattle.core_machine.proofs.Rotations.{open_kept, open_swapped}
use Rattle.core_machine.proofs.shared.Sections.{open_rest}
use Rattle.ledger_laws.proofs.shared.Roots.{listed_among, viewed_among, wanted_among, each_stands}

pub beside_steady : (c : Command) → IsBeside c → IsSteady c
beside_steady command.Begin is = absurd is
beside_steady command.Swap is = absurd is
beside_steady _ is = tt

-- a root of the machine is one beside the sessions
roots_open : (s : State) (es : ForActor Session) → s.sessions ≡ [] → (h : Hash) → Contains (roots s) h
    → Contains (roots (with_sessions s es)) h
roots_open s es none = each_stands (Contains (roots (with_sessions s es))) s.turning s (
  λ k d lt. listed_among (with_sessions s es) _ (Contains-get_or (keys_of s.listed) k d lt),
  λ k d lt. viewed_among (with_sessions s es) _ (Contains-get_or (values_of s.views) k d lt),
  subst (λ (x : ForActor Session). All (λ (e : Session). Contains (roots (with_sessions s es)) e.base) (values_of x)) (sym none)
      (All-nil (λ (e : Session). Contains (roots (with_sessions s es)) e.base)),
  λ k d lt. wanted_among (with_sessions s es) _ (Contains-get_or (keys_of s.wanted) k d lt),
  refl,
)

-- the command's own hashes are no matter of the sessions
own_open : (half : Half) (s : State) (es : ForActor Session) (a : ℕ) (c : Command) (r : Reply) → IsBeside c
    → own_hashes half (with_sessions s es) a c r ≡ own_hashes half s a c r
own_open half s es a (command.Close x fields) r is = absurd is
own_open half s es a c r is = refl

pub tells_open : (half : Half) (tells : Bool) (s s' : State) (drafts : ForActor Draft) (a : ℕ) (c : Command) (r : Reply) → IsBeside c
    → s'.sessions ≡ [] → Tells s s' (own_hashes half s a c r)
    → Tells (with_open half tells s drafts) (with_open half tells s' drafts) (own_hashes half (with_open half tells s drafts) a c r)
tells_open half tells s s' drafts a c r is none t = record {
  stays = t.stays;
  only = λ h i. ⊎_elim (λ old. inl old)
      (λ more. inr (⊎_elim (λ named. inl (roots_open s' (sessions_in half (told_forms tells s') drafts) none h named))
      (λ own. inr (subst (λ (hs : List Hash). Contains hs h)
      (sym (own_open half s (sessions_in half (told_forms tells s) drafts) a c r is)) own)) more)) (t.only h i);
}

pub names_open : (half : Half) (tells : Bool) (s s' : State) (drafts : ForActor Draft) (c : Command) (r : Reply) → IsBeside c
    → TellsRoot s c r s' → TellsRoot (with_open half tells s drafts) c r (with_open half tells s' drafts)
names_open half tells s s' drafts (command.Want t seq) (says.Want want.Opened) is names = names
names_open half tells s s' drafts (command.Close x fields) r is names = absurd is
names_open half tells s s' drafts c r is names = tt

-- what a begin of the machine is beside the sessions
begin_nodes : (s : State) (r : BeginReply) → form_in (after_begin s r) ≡ form_in s
begin_nodes s (begins.Begun v floor) = refl
begin_nodes s begins.NotDue = refl
begin_nodes s begins.Busy = refl

begin_open : (half : Half) (tells : Bool) (s s' : State) (drafts : ForActor Draft) (r : BeginReply) → IsAfter (after_begin s r) s'
    → IsAfter (after_begin (with_open half tells s drafts) r) (with_open half tells s' drafts)
begin_open half true s s' drafts (begins.Begun v floor) after = ap (λ (x : State). with_open half true x drafts) after
begin_open half true s s' drafts begins.NotDue after = ap (λ (x : State). with_open half true x drafts) after
begin_open half true s s' drafts begins.Busy after = ap (λ (x : State). with_open half true x drafts) after
begin_open half false s s' drafts (begins.Begun v floor) after = ap (λ (x : State). with_open half false x drafts) after
begin_open half false s s' drafts begins.NotDue after = ap (λ (x : State). with_open half false x drafts) after
begin_open half false s s' drafts begins.Busy after = ap (λ (x : State). with_open half false x drafts) after

begins_open : (half : Half) (tells : Bool) (s s' : State) (drafts : ForActor Draft) (more : List Hash) (r : BeginReply)
    → more ≡ bases (with_open half tells s drafts) → BeginsBy s more r s'
    → BeginsBy (with_open half tells s drafts) (bases (with_open half tells s drafts)) r (with_open half tells s' drafts)
begins_open half tells s s' drafts more (begins.Begun v floor) are told =
    subst (λ (hs : List Hash). BeginsBy (with_open half tells s drafts) hs (begins.Begun v floor) (with_open half tells s' drafts)) are told
begins_open half tells s s' drafts more begins.NotDue are told = told
begins_open half tells s s' drafts more begins.Busy are told = told

module _ (half : Half) (tells : Bool) (d d' : Desk) (drafts : ForActor Draft) where
  pub begin_keeps : (r : Result BeginReply Memory) → IfOk r (λ x. IsAfter (after_begin d.state x) d'.state) → OnErr r (d' ≡ d)
      → KeepsDrafts half tells d.state drafts → KeepsDrafts half tells d'.state drafts
  begin_keeps (Ok x) ok err keeps =
      keeps_same half tells d.state d'.state drafts (ap (λ (y : State). form_in y) ok ∙ begin_nodes d.state x) keeps
  begin_keeps (Err e) ok err keeps =
      keeps_same half tells d.state d'.state drafts (ap (λ (x : Desk). form_in x.state) err) keeps

  pub begins_after : (r : Result BeginReply Memory) → IfOk r (λ x. IsAfter (after_begin d.state x) d'.state)
      → IfOk r (λ x. IsAfter (after_begin (with_open half tells d.state drafts) x) (with_open half tells d'.state drafts))
  begins_after (Ok x) ok = begin_open half tells d.state d'.state drafts x ok
  begins_after (Err e) ok = tt

  pub begins_told : (more : List Hash) (r : Result BeginReply Memory) → more ≡ bases (with_open half tells d.state drafts)
      → IfOk r (λ x. BeginsBy d.state more x d'.state)
      → IfOk r (λ x. BeginsBy (with_open half tells d.state drafts) (bases (with_open half tells d.state drafts)) x
      (with_open half tells d'.state drafts))
  begins_told more (Ok x) are told = begins_open half tells d.state d'.state drafts more x are told
  begins_told more (Err e) are told = tt

  -- and what a swap is
  pub swap_keeps : (r : Result SwapReply BackFault) → StaysOverParent → (IsTrue tells → AreStored half (form_in d.state))
      → (IsTrue tells → AreTold (with_open half tells d.state drafts)) → (IsTrue tells → IfOk r (λ x. AfterSwap d.state x d'.state))
      → (IsTrue tells → OnErr r (d'.state ≡ d.state)) → KeepsDrafts half tells d.state drafts → KeepsDrafts half tells d'.state drafts
  swap_keeps (Ok x) law filed all ok err keeps told stored =
      open_kept half law tells d.state d'.state drafts told (filed told) (all told) (keeps told (filed told)) x (ok told)
  swap_keeps (Err e) law filed all ok err keeps told stored =
      keeps_same half tells d.state d'.state drafts (ap (λ (x : State). form_in x) (err told)) keeps told stored

  pub swap_after : (r : Result SwapReply BackFault) → StaysOverParent → IsTrue tells → AreStored half (form_in d.state)
      → AreTold (with_open half tells d.state drafts) → AllKept half d.state drafts → IfOk r (λ x. AfterSwap d.state x d'.state)
      → IfOk r (λ x. AfterSwap (with_open half tells d.state drafts) x (with_open half tells d'.state drafts))
  swap_after (Ok x) law told filed all kept ok = open_swapped half law tells d.state d'.state drafts told filed all kept x ok
  swap_after (Err e) law told filed all kept ok = tt

-- where a call is refused the state beside the sessions stays as the machine's does
pub err_open : {X E : Type 0} (half : Half) (tells : Bool) (s s' : State) (drafts : ForActor Draft) (r : Result X E) → OnErr r (s' ≡ s)
    → OnErr r (with_open half tells s' drafts ≡ with_open half tells s drafts)
err_open half tells s s' drafts (Ok x) same = tt
err_open half tells s s' drafts (Err e) same = ap (λ (x : State). with_open half tells x drafts) same

pub kept_open : {X E : Type 0} (half : Half) (tells : Bool) (s s' : State) (drafts : ForActor Draft) (r : Result X E)
    → (IsTrue tells → OnErr r (s' ≡ s)) → OnErr r (KeepsRest s s')
    → OnErr r (KeepsRest (with_open half tells s drafts) (with_open half tells s' drafts))
kept_open half tells s s' drafts (Ok x) same rest = tt
kept_open half tells s s' drafts (Err e) same rest = open_rest half tells s s' drafts same rest

-- ---- what contracts see of the machine beside the sessions
abbrev opened : Half → Bool → Desk → ForActor Draft → Desk
opened half tells d drafts = record d { state = with_open half tells d.state drafts }

-- what a command copies
pub copies_open : (half : Half) (tells : Bool) (d d' : Desk) (drafts : ForActor Draft) (c : Command) → CopiesBy c d d'
    → CopiesBy c (opened half tells d drafts) (opened half tells d' drafts)
copies_open half tells d d' drafts command.Swap copies = copies
copies_open half tells d d' drafts c copies = copies

-- how many slices left something
pub counts_open : (half : Half) (tells : Bool) (d d' : Desk) (drafts : ForActor Draft) (r : Result Left BackFault) → CountsSlice r d d'
    → CountsSlice r (opened half tells d drafts) (opened half tells d' drafts)
counts_open half tells d d' drafts (Ok l) counts = counts
counts_open half tells d d' drafts (Err e) counts = counts

-- what a search comes to
module _ (half : Half) (tells : Bool) (d d' : Desk) (drafts : ForActor Draft) (a : ℕ) (t : Hash) (part : Part) (x x' : Searches) where
  sought_open : (r : Result Sought SearchFault) → IfOk r (IsSought half tells d'.state t part)
      → IfOk r (IsSought half tells (with_open half tells d'.state drafts) t part)
  sought_open (Ok (sought.Ended found)) is = is
  sought_open (Ok sought.More) is = is
  sought_open (Err e) is = tt

  leaves_open : (r : Result Sought SearchFault)
      → IfOk r (LeavesSearch half d.state t (hunt_of x.hunts.items a) x.marks (hunt_of x'.hunts.items a) x'.marks)
      → IfOk r (LeavesSearch half (with_open half tells d.state drafts) t (hunt_of x.hunts.items a) x.marks (hunt_of x'.hunts.items a)
      x'.marks)
  leaves_open (Ok (sought.Ended found)) leaves = leaves
  leaves_open (Ok sought.More) leaves = record { open_still = leaves.open_still; goes = leaves.goes; unmarked = leaves.unmarked }
  leaves_open (Err e) leaves = tt

  pub seeks_open : (r : Result Sought SearchFault) → Seeks half tells d a t part x r x' d'
      → Seeks half tells (opened half tells d drafts) a t part x r x' (opened half tells d' drafts)
  seeks_open r seeks = record {
    found = sought_open r seeks.found;
    leaves = λ told. leaves_open r (seeks.leaves told);
    first = seeks.first;
    shares = record {
      kept = record { paired = seeks.shares.kept.paired; rule = seeks.shares.kept.rule };
      generation = seeks.shares.generation;
      others = seeks.shares.others;
      few = seeks.shares.few;
    };
    reads = reads_beside half tells drafts d d' seeks.reads;
    fault = seeks.fault;
  }
