use Rattle.std.proofs.Common.{◌≡◌, ◌∙◌, ℕ, List, ◌++◌, sym, ap}
use Rattle.std.proofs.lemmas.List.{append-nil}
use Rattle.std.specs.Map.{keys_of}
use Rattle.ledger_spec.specs.Maps.{ForHash}
use Rattle.ledger_spec.specs.Bytes.{Hash}
use Rattle.ledger_spec.specs.Retaining.{listed_from}
use Rattle.retain_book.proofs.Roots.{unpinned, roots_of, are_roots}
use Rattle.retain_book.proofs.Book.roots.Goals as goal

-- no entry is left
pub returns : goal.returns
returns c =
    let hashes : List Hash = c.loop-hash.hashes.items in
    let pins = c.self.inside.pins.entries in
    let floor = c.args.floor in
    let whole : hashes ≡ roots_of pins c.self.inside.listed.entries floor =
    sym (append-nil hashes)
    ∙ ap (λ (es : ForHash ℕ). hashes ++ keys_of (unpinned pins (listed_from floor es))) (sym (c.in-None.ensures.steps.0))
    ∙ c.loop-hash.invariant in
    rw (← c.self.view_is)
    (are_roots _ floor hashes c.in_ok-hashes.ensures.rising (c.into_iter-hash-iterator.ensures.into_iter_gives.5) whole)
