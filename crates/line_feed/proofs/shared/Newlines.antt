-- Parts of one line, joined, are a part of one line. For proofs of other crates.
use Rattle.std.proofs.Common.{ℕ, List, [], ◌∷◌, ◌++◌}
use Rattle.line_feed.specs.Lines.{IsOneLine}

pub one_join : (a b : List ℕ) → IsOneLine a → IsOneLine b → IsOneLine (a ++ b)
one_join [] b one more = more
one_join (x ∷ a) b one more = (one.0, one_join a b one.1 more)
