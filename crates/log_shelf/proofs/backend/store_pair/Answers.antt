use Rattle.std.proofs.Common.{refl, sym, ap, subst, ◌∙◌, ◌+◌, ◌++◌, [], ◌∷◌, ℕ, List, length, take, drop}
use Rattle.std.specs.FinMap as map
use Rattle.std.proofs.lemmas.List.{take_at, drop_at}
use Rattle.ledger_spec.specs.Bytes.{Nodes}
use Rattle.log_shelf.specs.Places.{Shows, Places}
use Rattle.log_shelf.specs.Entries.{text_of}
use Rattle.log_shelf.specs.Logs.{told_entries, doubted, MayDoubtEntry}
use Rattle.log_shelf.specs.declared.index.Place64.{Place64}
use Rattle.log_shelf.specs.Backends.{nodes_of, held_in}
use Rattle.log_shelf.proofs.Backends.{nodes_after-more, front-more, shows-more, doubt-pair, length-front}
use Rattle.log_shelf.proofs.backend.store_pair.Goals as goal

-- the pair is the last that counts
pub returns-in-Ok-clause-pair : goal.returns-in-Ok-clause-pair
returns-in-Ok-clause-pair g c =
    let entry = c.deref.ensures.value ∙ c.in_ok-entry.ensures in
    let told = told_entries c.args.log.now.tail (g.D.Disk.seen c.args.log.now.disk) in
    let held = nodes_of told in
    let h = c.args.h.now in
    let form = c.args.form.now in
    record {
      set = ap nodes_of (c.in-Ok.ensures.added.told ∙ ap (λ (e : List ℕ). told ++ e ∷ []) entry)
          ∙ (nodes_after-more map.empty told (h ++ form)
          ∙ (ap (λ (x : List ℕ). map.insert held x (drop 32 (h ++ form))) (take_at h form 32 c.known.ensures)
          ∙ ap (λ (x : List ℕ). map.insert held h x) (drop_at h form 32 c.known.ensures)));
      unset = tt;
    }

pub returns-in-Ok-clause-shows : goal.returns-in-Ok-clause-shows
returns-in-Ok-clause-shows g c =
    let entry = c.deref.ensures.value ∙ c.in_ok-entry.ensures in
    let tail = c.args.log.now.tail in
    let seen = g.D.Disk.seen c.args.log.now.disk in
    let h = c.args.h.now in
    let form = c.args.form.now in
    let place : Place64 = record { at = tail + 41; len = length form } in
    let count = length-front tail c.args.log.now.doubt seen (g.D.Disk.may_leave c.args.log.now.disk) c.args.log.now.kept
    (g.met.D.Disk.seen_stays c.args.log.now.disk) in
    let front = front-more tail c.append.new.self.tail seen (g.D.Disk.seen c.append.new.self.disk) c.args.log.now.doubt
    c.append.new.self.doubt
    (g.D.Disk.may_leave c.args.log.now.disk) (g.D.Disk.may_leave c.append.new.self.disk) (h ++ form) c.args.log.now.kept
    c.append.new.self.kept
    (c.in-Ok.ensures.added.told ∙ ap (λ (e : List ℕ). told_entries tail seen ++ e ∷ []) entry) in
    let shows = shows-more c.args.index.now (take tail seen) h form (held_in tail seen) place c.requires.shows c.known.ensures (ap (λ (n
    : ℕ). n + 41) (sym count)) refl in
    subst (λ (x : Places). Shows x (take c.append.new.self.tail (g.D.Disk.seen c.append.new.self.disk)) (held_in c.append.new.self.tail
    (g.D.Disk.seen c.append.new.self.disk)))
    (sym c.in_ok-before.ensures.ok)
    (subst (λ (x : List ℕ). Shows (map.insert c.args.index.now h place) x (held_in c.append.new.self.tail (g.D.Disk.seen
    c.append.new.self.disk))) (sym front)
    (subst (λ (x : Nodes). Shows (map.insert c.args.index.now h place) (take tail seen ++ text_of (h ++ form)) x) (sym
    (returns-in-Ok-clause-pair g c).set) shows))

pub returns-clause-doubted : goal.returns-clause-doubted
returns-clause-doubted g c =
    let entry = c.deref.ensures.value ∙ c.in_ok-entry.ensures in
    doubt-pair (doubted c.args.log.now.tail c.args.log.now.doubt (g.D.Disk.seen c.args.log.now.disk))
    (doubted c.append.new.self.tail c.append.new.self.doubt (g.D.Disk.seen c.append.new.self.disk)) c.args.h.now c.args.form.now
    c.known.ensures
    (subst (λ (e : List ℕ). MayDoubtEntry (doubted c.args.log.now.tail c.args.log.now.doubt (g.D.Disk.seen c.args.log.now.disk)) e
    (doubted c.append.new.self.tail c.append.new.self.doubt (g.D.Disk.seen c.append.new.self.disk))) entry c.in-Err.ensures.added.err.1)
