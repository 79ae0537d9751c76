use Rattle.std.proofs.Common.{◌≡◌, Ok, Err, subst}
use Rattle.rotating_store.specs.Puts.{Puts, TellsWrongHash}
use Rattle.rotating_store.specs.declared.outcome.Put.TheVariants as put
use Rattle.node_offer.proofs.Notes.{put_notes, put_noted, new_there, same_there}
use Rattle.node_offer.proofs.store.put.Goals as goal

-- the form now stands under its own hash, so the note of it is true, and no other hash's form has changed
pub returns-in-Ok-New-clause-notes : goal.returns-in-Ok-New-clause-notes
returns-in-Ok-New-clause-notes g c held told =
    let half = g.H.NodeHash.half in
    let s = c.args.store.now in
    let s' = c.put.new.self in
    let puts : Puts s c.args.hash.now c.args.form.now (Ok put.New) s' =
    subst (λ p. Puts s c.args.hash.now c.args.form.now (Ok p) s') c.in-Ok-New.field-0-is (c.in-Ok-New.ensures.puts told.0) in
    let own : half c.args.form.now ≡ c.args.hash.now =
    subst (λ p. TellsWrongHash half c.args.hash.now c.args.form.now (Ok p)) c.in-Ok-New.field-0-is c.in-Ok-New.ensures.wrong in (
      told.0,
      put_noted half s c.args.hash.now c.args.form.now s' held c.in-Ok-New.ensures.store.noted told.1 c.noted.new.store own
          (new_there half s c.args.hash.now c.args.form.now s' held c.in-Ok-New.ensures.store.noted told.1 puts.1) c.noted.ensures.noted
          (put_notes half s c.args.hash.now c.args.form.now s' held c.in-Ok-New.ensures.store.noted told.1 (Ok put.New) puts own),
    )

-- the very form stood under its own hash before, so the note of it is true, and what is held is as it was
pub returns-in-Ok-Same-clause-notes : goal.returns-in-Ok-Same-clause-notes
returns-in-Ok-Same-clause-notes g c held told =
    let half = g.H.NodeHash.half in
    let s = c.args.store.now in
    let s' = c.put.new.self in
    let puts : Puts s c.args.hash.now c.args.form.now (Ok put.Same) s' =
    subst (λ p. Puts s c.args.hash.now c.args.form.now (Ok p) s') c.in-Ok-Same.field-0-is (c.in-Ok-Same.ensures.puts told.0) in
    let own : half c.args.form.now ≡ c.args.hash.now =
    subst (λ p. TellsWrongHash half c.args.hash.now c.args.form.now (Ok p)) c.in-Ok-Same.field-0-is c.in-Ok-Same.ensures.wrong in (
      told.0,
      put_noted half s c.args.hash.now c.args.form.now s' held c.in-Ok-Same.ensures.store.noted told.1 c.noted-in-Ok-Same.new.store own
          (same_there half s c.args.hash.now c.args.form.now s' held c.in-Ok-Same.ensures.store.noted told.1 puts.0 puts.1)
          c.noted-in-Ok-Same.ensures.noted
          (put_notes half s c.args.hash.now c.args.form.now s' held c.in-Ok-Same.ensures.store.noted told.1 (Ok put.Same) puts own),
    )

-- nothing is noted, and at most the form was stored, under its own hash, so each note is as true as before
pub returns-in-Err-clause-notes : goal.returns-in-Err-clause-notes
returns-in-Err-clause-notes g c held told = (
  told.0,
  put_notes g.H.NodeHash.half c.args.store.now c.args.hash.now c.args.form.now c.put.new.self held c.in-Err.ensures.store.noted
      told.1 (Err c.in-Err.fault) (c.in-Err.ensures.puts told.0) c.in-Err.ensures.wrong,
)
