use Rattle.std.proofs.Common.{sym, ap, ◌∙◌, ◌==◌, ℕ, List, arith}
use Rattle.std.proofs.lemmas.List.Sorted.{list_any-IsPermutation, IsNonDecreasingBy-from_sort}
use Rattle.node_backend.specs.Numbers.{is_among}
use Rattle.log_shelf.proofs.Parsing.{rises_from}
use Rattle.log_shelf.proofs.recover.sorted_numbers.Goals as goal

pub returns-clause-rises : goal.returns-clause-rises
returns-clause-rises c = rises_from 0 c.sort_unstable.new.self.items (IsNonDecreasingBy-from_sort (λ (n : ℕ). n)
    c.sort_unstable.new.self.items c.sort_unstable.ensures.sorted) (λ l. omega arith)

pub returns-clause-live : goal.returns-clause-live
returns-clause-live c n =
    sym (list_any-IsPermutation (λ (k : ℕ). k == n) c.in_ok-numbers.numbers.items c.sort_unstable.new.self.items
    c.sort_unstable.ensures.permutation)
    ∙ ap (λ (xs : List ℕ). is_among xs n) c.in_ok-numbers.ensures
