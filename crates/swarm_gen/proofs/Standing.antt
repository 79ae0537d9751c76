-- How a script goes on, ledger by ledger.
use Rattle.std.specs.Prelude.{◌≡◌, ℕ, zero, suc, ◌+◌, ◌-◌, ◌<◌, ◌≤◌, ◌==◌, Bool, true, false, if◌then◌else◌, List, [], ◌∷◌, ◌++◌}
use Rattle.std.specs.Prelude.{map, length}
use Rattle.std.proofs.Common.{sym, ap, ◌∙◌, subst, arith, append_assoc, append-nil}
use Rattle.std.specs.List.{range_with_len, slice_index_or}
use Rattle.std.proofs.lemmas.List.FromFn.{get_or-map-range_with_len}
use Rattle.std.proofs.lemmas.Bool.Decides.{nat_tests}
use Rattle.ledger_spec.specs.declared.Kind.TheVariants.{State}
use Rattle.ledger_spec.specs.Bytes.{Hash, Half, Items}
use Rattle.ledger_machine.specs.declared.commands.Line.{Line}
use Rattle.swarm_gen.specs.declared.plan.Plan.{Plan}
use Rattle.map_changes.specs.Placed.{nodes_of}
use Rattle.map_changes.proofs.shared.Changed.{no_nodes}
use Rattle.swarm_gen.specs.Ledgers.{state_of, state_nodes, is_made, front}
use Rattle.swarm_gen.specs.Script.{Said, Ledger, numbered, ledger_lines, lines_of, next_waits}
use Rattle.swarm_gen.specs.Adding.{Adds}
use Rattle.swarm_gen.specs.Swarm.{ledger_of, read_keys, nodes_before, swarm}
use Rattle.swarm_gen.specs.Standing.{IsAdded, IsLeft}
use Rattle.swarm_gen.proofs.Adds.{numbered-append, adds_length}

-- before the first ledger
pub left_start : (half : Half) (plan : Plan) → IsLeft half plan 0 [] 0
left_start half plan =
    let e : plan.ledgers ≡ plan.ledgers - 0 = omega arith in
    record {
      whole = ap (λ n. numbered 1 (lines_of plan (read_keys half plan)
          (map (ledger_of half plan) (front (is_made half plan) (range_with_len 1 n))) 0 0)) e;
    }

-- the ledgers that are left, from the next one on
left_ledgers : (half : Half) (plan : Plan) (j : ℕ) (b : Bool) → j < plan.ledgers → is_made half plan (j + 1) ≡ b
    → front (is_made half plan) (range_with_len (j + 1) (plan.ledgers - j))
    ≡ (if b then (j + 1) ∷ front (is_made half plan) (range_with_len (j + 1 + 1) (plan.ledgers - (j + 1))) else [])
left_ledgers half plan j b lt made =
    let e : plan.ledgers - j ≡ suc (plan.ledgers - (j + 1)) = omega arith in
    ap (λ n. front (is_made half plan) (range_with_len (j + 1) n)) e
    ∙ ap (λ x. if x then (j + 1) ∷ front (is_made half plan) (range_with_len (j + 1 + 1) (plan.ledgers - (j + 1))) else []) made

-- the next ledger's lines were added
pub left_more : (half : Half) (plan : Plan) (j : ℕ) (keys : List Hash) (lines after : List Line) (waits next : ℕ) → j < plan.ledgers
    → keys ≡ read_keys half plan → is_made half plan (j + 1) ≡ true
    → IsAdded half plan keys (j + 1) true lines after waits next → IsLeft half plan j lines waits → IsLeft half plan (j + 1) after next
left_more half plan j keys lines after waits next lt is made added left =
    let rk : List Hash = read_keys half plan in
    let l : Ledger = ledger_of half plan (j + 1) in
    let n : ℕ = length lines in
    let own : List Said = ledger_lines plan rk l n waits in
    let js : List ℕ = front (is_made half plan) (range_with_len (j + 1 + 1) (plan.ledgers - (j + 1))) in
    let rest : List Said = lines_of plan rk (map (ledger_of half plan) js) (n + length own) (next_waits plan rk l n waits) in
    let adds : Adds lines after own = subst (λ (x : List Hash). Adds lines after (ledger_lines plan x l n waits)) is added.0 in
    let waits_is : next ≡ next_waits plan rk l n waits = added.1 ∙ ap (λ (x : List Hash). next_waits plan x l n waits) is in
    let long : n + length own ≡ length after = omega (arith, adds_length lines after own adds) in
    let number : n + 1 + length own ≡ length after + 1 = omega (arith, long) in
    record {
      whole = left.whole
          ∙ ap (λ (x : List ℕ). lines ++ numbered (n + 1) (lines_of plan rk (map (ledger_of half plan) x) n waits))
          (left_ledgers half plan j true lt made)
          ∙ ap (λ (x : List Line). lines ++ x) (numbered-append (n + 1) own rest)
          ∙ sym (append_assoc lines (numbered (n + 1) own) (numbered (n + 1 + length own) rest))
          ∙ ap (λ (x : List Line). x ++ numbered (n + 1 + length own) rest) (sym adds.lines)
          ∙ ap (λ m. after ++ numbered m rest) number
          ∙ (λ i. after ++ numbered (length after + 1) (lines_of plan rk (map (ledger_of half plan) js) (long i) (sym waits_is i)));
    }

-- the next ledger isn't made
pub left_stop : (half : Half) (plan : Plan) (j : ℕ) (lines after : List Line) (waits : ℕ) → j < plan.ledgers
    → is_made half plan (j + 1) ≡ false → after ≡ lines
    → IsLeft half plan j lines waits → after ≡ swarm half plan
left_stop half plan j lines after waits lt made e left =
    let n : ℕ = length lines in
    e ∙ sym (left.whole ∙ ap (λ (x : List ℕ). lines ++ numbered (n + 1)
    (lines_of plan (read_keys half plan) (map (ledger_of half plan) x) n waits)) (left_ledgers half plan j false lt made)
    ∙ append-nil lines)

-- no ledger is left
pub left_end : (half : Half) (plan : Plan) (j : ℕ) (lines : List Line) (waits : ℕ) → plan.ledgers ≤ j → IsLeft half plan j lines waits
    → lines ≡ swarm half plan
left_end half plan j lines waits le left =
    let n : ℕ = length lines in
    let e : plan.ledgers - j ≡ 0 = omega arith in
    sym (left.whole ∙ ap (λ m. lines ++ numbered (n + 1) (lines_of plan (read_keys half plan)
    (map (ledger_of half plan) (front (is_made half plan) (range_with_len (j + 1) m))) n waits)) e
    ∙ append-nil lines)

-- what was added where the ledger is made, and where it isn't
pub added_as : (half : Half) (plan : Plan) (keys : List Hash) (seq : ℕ) (b c : Bool) (lines after : List Line) (waits next : ℕ) → b ≡ c
    → IsAdded half plan keys seq b lines after waits next → IsAdded half plan keys seq c lines after waits next
added_as half plan keys seq b c lines after waits next e h = subst (λ (x : Bool). IsAdded half plan keys seq x lines after waits next) e h

-- the nodes before a later ledger
pub before_next : (half : Half) (plan : Plan) (j : ℕ) → 1 ≤ j → nodes_before half plan (j + 1) ≡ state_nodes half plan j
before_next half plan j low =
    let f : ((j + 1) == 1) ≡ false = grind (arith, nat_tests) in
    let m : j + 1 - 1 ≡ j = omega arith in
    ap (λ b. if b then [] else state_nodes half plan (j + 1 - 1)) f ∙ ap (state_nodes half plan) m

-- the account state of a ledger among those of all
pub state_at : (half : Half) (plan : Plan) (count seq : ℕ) (versions : List Items)
    → versions ≡ [] ∷ map (state_of half plan) (range_with_len 1 count) → 1 ≤ seq → seq ≤ count
    → slice_index_or versions seq [] ≡ state_of half plan seq
state_at half plan count zero versions is low high = absurd (omega arith)
state_at half plan count (suc j) versions is low high =
    ap (λ (vs : List Items). slice_index_or vs (suc j) []) is
    ∙ get_or-map-range_with_len (state_of half plan) 1 count j (suc j) [] (omega arith) (omega arith)

-- and the nodes of the one before it
pub before_at : (half : Half) (plan : Plan) (count seq : ℕ) (versions : List Items)
    → versions ≡ [] ∷ map (state_of half plan) (range_with_len 1 count) → 1 ≤ seq → seq ≤ count
    → nodes_of half State (slice_index_or versions (seq - 1) []) ≡ nodes_before half plan seq
before_at half plan count zero versions is low high = absurd (omega arith)
before_at half plan count (suc zero) versions is low high =
    ap (λ (vs : List Items). nodes_of half State (slice_index_or vs 0 [])) is ∙ no_nodes half State
before_at half plan count (suc (suc j)) versions is low high =
    let n : suc (suc j) - 1 ≡ suc j = omega arith in
    let m : suc j + 1 ≡ suc (suc j) = omega arith in
    ap (λ k. nodes_of half State (slice_index_or versions k [])) n
    ∙ ap (nodes_of half State) (state_at half plan count (suc j) versions is (omega arith) (omega arith))
    ∙ sym (before_next half plan (suc j) (omega arith)) ∙ ap (nodes_before half plan) m
