use Rattle.std.proofs.Common.{ap, sym, ◌∙◌, List, ℕ, length, take, is_lt}
use Rattle.nib_path.specs.Paths.{nibbles}
use Rattle.map_cursor.proofs.Orders.{not_passed, passed_is}
use Rattle.map_cursor.proofs.visits.is_before.Goals as goal

-- the first key under the place is no less
pub returns-then-not-is_lt : goal.returns-then-not-is_lt
returns-then-not-is_lt c =
    not_passed c.args.id.now c.args.after.now c.id.result c.known.ensures c.known_key.ensures c.id.ensures
    (sym (ap is_lt c.cmp.ensures) ∙ sym c.is_lt.ensures ∙ c.if-not-is_lt.true)

-- both IDs have zeros behind the place's depth, so they are in the order of the place and of the key's first nibbles
pub returns : goal.returns
returns c =
    c.is_lt-2.ensures ∙ ap is_lt c.cmp-2.ensures
    ∙ passed_is c.args.id.now c.of_key-reached.result c.args.after.now c.id.result c.id-2.result c.known.ensures c.known_key.ensures
    (c.of_key-reached.ensures ∙ ap (λ n. take n (nibbles c.after.inside.bytes)) c.depth.ensures
    ∙ ap (λ (k : List ℕ). take (length c.args.id.now) (nibbles k)) c.after.view_is) c.id.ensures c.id-2.ensures
