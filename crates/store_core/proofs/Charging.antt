-- What has the wanted hash charges nobody.
use Rattle.std.proofs.Common.{◌≡◌, ⊎_elim, ℕ, Bool, true, false, if◌then◌else◌, List, [], ◌∷◌}
use Rattle.std.proofs.Common.{Option, None, Some, is_some, Result, Ok, Err, IfOk}
use Rattle.std.proofs.Common.{refl, sym, ap, ◌∙◌}
use Rattle.std.specs.Option.{option_map_or}
use Rattle.std.specs.FinMap as finite
use Rattle.std.specs.FinSet as set
use Rattle.ledger_spec.specs.declared.Kind.{Kind}
use Rattle.ledger_spec.specs.declared.outcomes.Offered.{Offered}
use Rattle.ledger_spec.specs.Bytes.{Bytes, Hash, Half}
use Rattle.ledger_spec.specs.Maps.{ForHash, hash_cmp, get_in, set_in}
use Rattle.ledger_spec.specs.Forms.{Held}
use Rattle.ledger_spec.specs.Offers.{Clash, node_outcome}
use Rattle.ledger_spec.specs.Bases.{Judged, base_forms}
use Rattle.ledger_spec.specs.Peers.{Peers}
use Rattle.ledger_spec.specs.Acquiring.{Acquiring, is_bad, after_outcome, after_judging}
use Rattle.node_offer.proofs.shared.Wanted.{never_bad}
use Rattle.acquire_core.specs.Replies.{IsWanted, AreWanted}
use Rattle.acquire_core.proofs.shared.Wanting.{nobody_charged}
use Rattle.ledger_machine.specs.declared.commands.Command.{Command}
use Rattle.ledger_machine.specs.declared.commands.Command.TheVariants as command
use Rattle.ledger_spec.specs.declared.replies.BaseReply.TheVariants as base
use Rattle.ledger_spec.specs.declared.replies.NodeReply.TheVariants as node
use Rattle.ledger_machine.specs.declared.commands.Reply.{Reply}
use Rattle.ledger_machine.specs.declared.commands.Reply.TheVariants as says
use Rattle.ledger_machine.specs.State.{State, form_in, with_form, with_forms, changed}
use Rattle.ledger_machine.specs.Base.{base_reply, after_base, node_reply, node_forms, after_node}
use Rattle.ledger_machine.specs.Steps.{Step, Refused, Gives}
use Rattle.ledger_laws.proofs.shared.SoundSteps.{outcome_cases}
use Rattle.ledger_laws.proofs.shared.Receipts.{base_present, node_present}
use Rattle.core_machine.proofs.shared.States.{set_same}

-- what is stored is no part of the acquisitions
form_wanted : (half : Half) (s : State) (form : Bytes) → (with_form half s form).wanted ≡ s.wanted
form_wanted half s form = at (is_some (form_in s (half form)))
  where
    at : (b : Bool)
        → (if b then s else record s
        { nodes = finite.insert s.nodes (half form) form; born = set.insert s.born (half form) }).wanted ≡ s.wanted
    at true = refl
    at false = refl

forms_wanted : (half : Half) (s : State) (forms : List Bytes) → (with_forms half s forms).wanted ≡ s.wanted
forms_wanted half s [] = refl
forms_wanted half s (form ∷ forms) = forms_wanted half (with_form half s form) forms ∙ form_wanted half s form

-- a change that changes nothing
changed_same : (m : ForHash Acquiring) (t : Hash) (change : Acquiring → Acquiring) → ((a : Acquiring) → change a ≡ a)
    → changed m t change ≡ m
changed_same m t change same = at (get_in hash_cmp m t) refl
  where
    at : (o : Option Acquiring) → get_in hash_cmp m t ≡ o → option_map_or (λ a. set_in hash_cmp m t (change a)) o m ≡ m
    at None is = refl
    at (Some a) is = ap (set_in hash_cmp m t) (same a) ∙ set_same _ m a is

-- a command that is refused charges nobody
refused_wanted : (half : Half) (s s' : State) (a : ℕ) (c : Command) → Refused half s a c s' → s'.wanted ≡ s.wanted
refused_wanted half s s' a c r = ap (λ (x : State). x.wanted) r.same ∙ forms_wanted half s r.forms

-- peers that no outcome charges
stored_wanted : (half : Half) (s : State) (t : Hash) (forms : List Bytes) (change : Peers → Peers) → ((x : Peers) → change x ≡ x)
    → changed (with_forms half s forms).wanted t (λ a. record a { peers = change a.peers }) ≡ s.wanted
stored_wanted half s t forms change same =
    changed_same (with_forms half s forms).wanted t (λ a. record a { peers = change a.peers })
    (λ a i. record a { peers = same a.peers i })
    ∙ forms_wanted half s forms

-- a node with the wanted hash
module _ (half : Half) (s s' : State) (p : ℕ) (t : Hash) (kind : Kind) (path : List ℕ) (blob : Bytes)
    (wanted : IsWanted half (form_in s) t kind path blob) where
  not_bad : (r : Result Offered Clash) (o : Offered) → IfOk r (λ x. is_bad x ≡ false) → r ≡ Ok o → is_bad o ≡ false
  not_bad (Ok x) o good e = let same : x ≡ o = cc in ap is_bad (sym same) ∙ good
  not_bad (Err c) o good e = cc

  -- where the row says an outcome that isn't bad, and no other answer changes an acquisition
  node_after : (reply : Reply) → reply ≡ node_reply half s p t kind path blob
      → (after_node half s p t kind path blob reply).wanted ≡ s.wanted
  node_after (says.Node (node.One o)) e =
      let one : node_outcome half (form_in s) t kind path blob ≡ Ok o =
      node_present half s p t kind path blob (get_in hash_cmp s.wanted t) o (sym e) in
      let fine : is_bad o ≡ false = not_bad (node_outcome half (form_in s) t kind path blob) o
      (never_bad half (form_in s) t kind path blob wanted.node _ wanted.parent wanted.read wanted.place refl) one in
      stored_wanted half s t (node_forms half s t kind path blob) (after_outcome p (is_bad o)) (λ x. ap (λ b. after_outcome p b x) fine)
  node_after _ e = refl

  -- a step is refused, which charges nobody, or it is its row's
  pub node_charges_nobody : (a : ℕ) (reply : Reply) (used : List Held) → Step half s a (command.Node p t kind path blob) reply used s'
      → s'.wanted ≡ s.wanted
  node_charges_nobody a reply used step =
      ⊎_elim (λ r. refused_wanted half s s' a (command.Node p t kind path blob) r)
      (λ (g : Gives (node_reply half s p t kind path blob) (after_node half s p t kind path blob reply) reply s').
      ap (λ (x : State). x.wanted) g.after ∙ node_after reply g.says)
      (outcome_cases half s a (command.Node p t kind path blob) reply used s' step.outcome)

-- a base reply whose header and roots have the wanted hashes
module _ (half : Half) (s s' : State) (p : ℕ) (t : Hash) (header : Bytes) (state tx : Option Bytes)
    (wanted : AreWanted half (form_in s) t header state tx) where
  -- no part is bad, and no other answer changes an acquisition
  base_after : (reply : Reply) → reply ≡ base_reply half s p t header state tx
      → (after_base half s p t header state tx reply).wanted ≡ s.wanted
  base_after (says.Base (base.Parts h x y)) e =
      let j : Judged = record { header = h; state = x; tx = y } in
      stored_wanted half s t (base_forms half (form_in s) t header state tx) (after_judging p j)
      (λ peers. nobody_charged half (form_in s) t header state tx p j peers wanted
      (base_present half s p t header state tx (get_in hash_cmp s.wanted t) h x y (sym e)))
  base_after _ e = refl

  -- the same of a base reply
  pub base_charges_nobody : (a : ℕ) (reply : Reply) (used : List Held) → Step half s a (command.Base p t header state tx) reply used s'
      → s'.wanted ≡ s.wanted
  base_charges_nobody a reply used step =
      ⊎_elim (λ r. refused_wanted half s s' a (command.Base p t header state tx) r)
      (λ (g : Gives (base_reply half s p t header state tx) (after_base half s p t header state tx reply) reply s').
      ap (λ (x : State). x.wanted) g.after ∙ base_after reply g.says)
      (outcome_cases half s a (command.Base p t header state tx) reply used s' step.outcome)
