use Rattle.std.proofs.Common.{◌≡◌, ◌++◌}
use Rattle.std.specs.Map.{keys_of}
use Rattle.ledger_spec.specs.Retaining.{listed_from}
use Rattle.retain_book.proofs.Roots.{unpinned, roots_of}
use Rattle.retain_book.proofs.Book.roots.Given as goal

abbrev pub invariant-loop-hash : goal.invariant-loop-hash
invariant-loop-hash l =
    l.hashes.items ++ keys_of (unpinned l.self-inside.pins.entries (listed_from l.floor l.hash-iterator))
    ≡ roots_of l.self-inside.pins.entries l.self-inside.listed.entries l.floor
