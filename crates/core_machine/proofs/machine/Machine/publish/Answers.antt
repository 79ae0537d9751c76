-- forms that weren't all stored, or a ledger that couldn't be listed, leave the session open; all that was told are the ledger's forms
use Rattle.std.proofs.Common.{rules}
use Rattle.std.proofs.Common.{◌∷◌, sym, ap, ◌∙◌, subst, map, List, Err, arith}
use Rattle.ledger_spec.specs.Maps.{hash_cmp, has_in}
use Rattle.cow_map.specs.declared.seal.FormOf.{FormOf}
use Rattle.ledger_machine.specs.declared.commands.CloseReply.TheVariants as close
use Rattle.ledger_machine.specs.declared.commands.Reply.TheVariants as says
use Rattle.ledger_machine.specs.State.{with_forms}
use Rattle.ledger_machine.specs.Steps.{IsAfter}
use Rattle.core_machine.specs.Closing.{MayKeepAll}
use Rattle.core_machine.specs.Desks.{Desk}
use Rattle.core_machine.specs.Telling.{Hears}
use Rattle.core_machine.proofs.Publishing.{unkept, unenlisted, own_told, enlisted_few}
use Rattle.core_machine.proofs.Retold.{hears_same}
use Rattle.core_machine.proofs.machine.Machine.publish.Goals as goal

pub returns-in-Err-clause-acts : goal.returns-in-Err-clause-acts
returns-in-Err-clause-acts g c = record {
  does = λ told. rw c.refusal.ensures
      (unkept g.H.NodeHash.half c.args.self.now.state c.args.id c.args.given.now c.args.made.now (c.requires.made told) c.in-Err.fault
      c.keep_forms.new.self.state
      (sym (ap (λ (d : Desk). has_in hash_cmp d.state.listed c.args.made.now.hash) c.self.view_is) ∙ sym c.is_listed.ensures
      ∙ c.if-is_listed.false)
      (subst (λ (fs : List FormOf). MayKeepAll {X = Unit {0}} g.H.NodeHash.half c.args.self.now.state (map (λ f. f.form) fs)
      (Err c.in-Err.fault) c.keep_forms.new.self.state) c.deref.ensures.value (c.in-Err.ensures.forms.keeps told)));
  leaves = search rules;
  copies = search rules;
  asks = tt;
}

pub returns-in-Err-clause-tells : goal.returns-in-Err-clause-tells
returns-in-Err-clause-tells g c told =
    own_told g.H.NodeHash.half c.args.self.now.state c.args.id c.args.given.now c.args.made.now (c.requires.made told) c.refusal.result
    c.keep_forms.new.self.state
    c.requires.named
    (subst (λ (fs : List FormOf). Hears c.args.self.now.state.shaded (c.args.made.now.hash ∷ map (λ f. f.hash) fs)
    c.keep_forms.new.self.state.shaded) c.deref.ensures.value c.keep_forms.ensures.forms.hears)

pub returns-in-Ok-list_closed-clause-tells : goal.returns-in-Ok-list_closed-clause-tells
returns-in-Ok-list_closed-clause-tells g c told =
    own_told g.H.NodeHash.half c.args.self.now.state c.args.id c.args.given.now c.args.made.now (c.requires.made told)
    (says.Close (close.Closed c.args.made.now.hash)) c.list_closed.new.self.state c.requires.named
    (hears_same _ _ _ _ (subst (λ (fs : List FormOf). Hears c.args.self.now.state.shaded (c.args.made.now.hash ∷ map (λ f. f.hash) fs)
    c.keep_forms.new.self.state.shaded) c.deref.ensures.value c.keep_forms.ensures.forms.hears) c.list_closed.ensures.told)

pub returns-in-Ok-list_closed-clause-acts : goal.returns-in-Ok-list_closed-clause-acts
returns-in-Ok-list_closed-clause-acts g c = record {
  does = search rules;
  leaves = record {
    refused = λ is. absurd is;
    grows = record {
      later = omega (arith, c.keep_forms.ensures.forms.stays.later, c.list_closed.ensures.store.faults);
      few = enlisted_few c.args.self.now.state c.keep_forms.new.self.state c.list_closed.new.self.state c.args.id c.args.made.now.hash
          c.args.made.now.header.seq c.keep_forms.ensures.forms.stays.listed c.in-Ok-list_closed.ensures.ok;
      ages = omega (arith, c.list_closed.ensures.store.epoch, c.keep_forms.ensures.forms.stays.epoch);
    };
    slices = search rules;
    fault = search rules;
  };
  copies = search rules;
  asks = tt;
}

pub returns-in-Err-list_closed-clause-acts : goal.returns-in-Err-list_closed-clause-acts
returns-in-Err-list_closed-clause-acts g c = record {
  does = λ told. unenlisted g.H.NodeHash.half c.args.self.now.state c.args.id c.args.given.now c.args.made.now (c.requires.made told)
      c.list_closed.new.self.state
      (subst (λ (d : Desk). IsAfter (with_forms g.H.NodeHash.half c.args.self.now.state (map (λ f. f.form) c.args.made.now.forms.items))
      d.state) (sym c.in-Err-list_closed.ensures.err)
      (subst (λ (fs : List FormOf). IsAfter (with_forms g.H.NodeHash.half c.args.self.now.state (map (λ f. f.form) fs))
      c.keep_forms.new.self.state) c.deref.ensures.value (c.in-Ok.ensures.forms.keeps told).1));
  leaves = search rules;
  copies = search rules;
  asks = tt;
}

pub returns-in-Err-list_closed-clause-tells : goal.returns-in-Err-list_closed-clause-tells
returns-in-Err-list_closed-clause-tells g c told =
    own_told g.H.NodeHash.half c.args.self.now.state c.args.id c.args.given.now c.args.made.now (c.requires.made told) says.Memory
    c.list_closed.new.self.state
    c.requires.named
    (hears_same _ _ _ _ (subst (λ (fs : List FormOf). Hears c.args.self.now.state.shaded (c.args.made.now.hash ∷ map (λ f. f.hash) fs)
    c.keep_forms.new.self.state.shaded) c.deref.ensures.value c.keep_forms.ensures.forms.hears) c.list_closed.ensures.told)
