-- The row of `want`.
use Rattle.std.specs.Prelude.{ℕ, ◌==◌, ◌&&◌, not, nat_lt, if◌then◌else◌, length}
use Rattle.ledger_spec.specs.Maps.{hash_cmp, has_in, insert_in}
use Rattle.ledger_spec.specs.Bytes.{Hash}
use Rattle.ledger_spec.specs.Acquiring.{acquiring}
use Rattle.ledger_machine.specs.declared.commands.WantReply.{WantReply}
use Rattle.ledger_machine.specs.declared.commands.WantReply.TheVariants.{Opened, Open, Listed, BelowFloor, TooMany}
use Rattle.ledger_machine.specs.Limits.{most_wanted}
use Rattle.ledger_machine.specs.State.{State}

abbrev pub want_reply : State → Hash → ℕ → WantReply
want_reply s t seq =
    if has_in hash_cmp s.listed t then Listed
    else if has_in hash_cmp s.wanted t then Open
    else if not (seq == 0) && nat_lt seq s.floor then BelowFloor s.floor
    else if length s.wanted == most_wanted then TooMany
    else Opened

abbrev pub after_want : State → Hash → ℕ → WantReply → State
after_want s t seq Opened = record s { wanted = insert_in hash_cmp s.wanted t (acquiring t seq) }
after_want s t seq _ = s
