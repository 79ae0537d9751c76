use Rattle.std.proofs.Common.{refl, arith}
use Rattle.script_form.specs.declared.forms.Form.TheVariants as form
use Rattle.script_form.proofs.Calls.{two_words, says_as}
use Rattle.script_form.proofs.call.peer_of.Goals as goal

pub returns : goal.returns
returns c =
    says_as form.Peer _ _ (c.in_ok-peer.peer, (c.in_ok-target.target, tt)) _
    (two_words c.args.arguments.now _ _ (omega (arith, c.in-len2.len_at_least, c.in-len2.len_below)))
    (c.in_ok-peer.ensures, (c.in_ok-target.ensures, tt))
    refl
