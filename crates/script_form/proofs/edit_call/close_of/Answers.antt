use Rattle.std.proofs.Common.{◌≡◌, length, refl, arith}
use Rattle.script_form.specs.declared.forms.Form.TheVariants as form
use Rattle.script_form.proofs.Calls.{five_words, flags_word, says_as}
use Rattle.script_form.proofs.edit_call.close_of.Goals as goal

pub returns : goal.returns
returns c =
    says_as form.Close _ _ (
      c.in_ok-session.session,
      (
        c.in_ok-drops.drops,
        (c.in_ok-time.time, (c.in_ok-resolution.resolution, (c.in_ok-flags.flags, tt))),
      ),
    ) _
    (five_words c.args.arguments.now _ _ _ _ _ (omega (arith, c.in-len5.len_at_least, c.in-len5.len_below)))
    (c.in_ok-session.ensures, (c.in_ok-drops.ensures, (c.in_ok-time.ensures, (c.in_ok-resolution.ensures, (c.in_ok-flags.ensures, tt)))))
    refl

-- the last word says no flags, so the words say no close
pub returns-in_err-flags : goal.returns-in_err-flags
returns-in_err-flags c =
    rw c.from_residual-in_err-flags.ensures (record {
      none = λ said says.
          let size : length c.args.arguments.now ≡ 5 = omega (arith, c.in-len5.len_at_least, c.in-len5.len_below) in
          let last = flags_word c.args.arguments.now _ size said says in
          c.in_err-flags.ensures last.0 last.1;
    })
