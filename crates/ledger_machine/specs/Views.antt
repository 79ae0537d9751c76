-- The rows of `view` and `unview`.
use Rattle.std.specs.Prelude.{ℕ, ◌==◌, not, Bool, if◌then◌else◌, length}
use Rattle.std.specs.List.{list_any}
use Rattle.ledger_spec.specs.Maps.{numbered_cmp, has_in, insert_in, remove_in}
use Rattle.ledger_spec.specs.Bytes.{Hash, same_bytes}
use Rattle.ledger_machine.specs.declared.commands.ViewReply.{ViewReply}
use Rattle.ledger_machine.specs.declared.commands.ViewReply.TheVariants.{Fine, NotRetained, InUse, TooMany}
use Rattle.ledger_machine.specs.Limits.{most_views}
use Rattle.ledger_machine.specs.State.{State, retained}

abbrev pub is_retained : State → Hash → Bool
is_retained s t = list_any (same_bytes t) (retained s)

abbrev pub view_reply : State → ℕ × ℕ → Hash → ViewReply
view_reply s v t =
    if has_in numbered_cmp s.views v then InUse
    else if not (is_retained s t) then NotRetained
    else if length s.views == most_views then TooMany
    else Fine

abbrev pub after_view : State → ℕ × ℕ → Hash → ViewReply → State
after_view s v t Fine = record s { views = insert_in numbered_cmp s.views v t }
after_view s v t _ = s

-- whether the view was open
abbrev pub unview_reply : State → ℕ × ℕ → Bool
unview_reply s v = has_in numbered_cmp s.views v

abbrev pub after_unview : State → ℕ × ℕ → State
after_unview s v = record s { views = remove_in numbered_cmp s.views v }
