use Rattle.std.proofs.Common.{◌≡◌, length, refl, arith}
use Rattle.script_form.specs.declared.forms.Form.TheVariants as form
use Rattle.script_form.proofs.Calls.{five_words, last_word, says_as}
use Rattle.script_form.proofs.call.node_of.Goals as goal

-- the last word says no bytes, so the five words say no node
pub returns-in_default-2 : goal.returns-in_default-2
returns-in_default-2 c = record {
  none = λ said says.
      let none = rw c.in_default-2.is at c.in_ok-blob.ensures in
      let size : length c.args.arguments.now ≡ 5 = omega (arith, c.in-len5.len_at_least, c.in-len5.len_below) in
      let last = last_word c.args.arguments.now _ size said says in
      none last.0 last.1;
}

-- each of the five words says its argument: the peer, the target, the kind, the place and the bytes
pub returns : goal.returns
returns c =
    says_as form.Node _ _
    (c.in-Some.peer, (c.in-Some-target_word.target, (c.in-Some-kind_word.kind, (c.in-Some-id_word.id, (c.in-Some-2.blob, tt))))) _
    (five_words c.args.arguments.now _ _ _ _ _ (omega (arith, c.in-len5.len_at_least, c.in-len5.len_below))) (
      c.in-Some.ensures,
      (
        c.in-Some-target_word.ensures,
        (c.in-Some-kind_word.ensures, (c.in-Some-id_word.ensures, (rw c.in-Some-2.is at c.in_ok-blob.ensures, tt))),
      ),
    )
    refl
