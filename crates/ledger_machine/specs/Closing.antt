-- The row of `close`: the forms of a new ledger, and whether they can be stored.
use Rattle.std.specs.Prelude.{ℕ, ◌+◌, ◌==◌, nat_lt, if◌then◌else◌, List, [], ◌∷◌, ◌++◌, length, Option, None, Some}
use Rattle.std.specs.List.{find}
use Rattle.std.specs.Option.{option_or, unwrap_or}
use Rattle.ledger_spec.specs.Maps.{hash_cmp, numbered_cmp, get_in, has_in}
use Rattle.ledger_spec.specs.declared.Kind.TheVariants.{State as accounts, Tx as txs}
use Rattle.ledger_spec.specs.Bytes.{Bytes, Hash, Half, is_zero, same_bytes}
use Rattle.ledger_spec.specs.Header.{header_bytes, seq_of, close_of}
use Rattle.ledger_spec.specs.Forms.{header_prefix}
use Rattle.ledger_spec.specs.Spots.{header_in}
use Rattle.ledger_spec.specs.Tree.{root_of, forms_of}
use Rattle.ledger_machine.specs.declared.commands.CloseReply.TheVariants as close
use Rattle.ledger_machine.specs.declared.commands.Reply.{Reply}
use Rattle.ledger_machine.specs.declared.commands.Reply.TheVariants as says
use Rattle.ledger_machine.specs.State.{State, Session, form_in, with_form, with_forms, listed_with}
use Rattle.ledger_spec.specs.Offers.{Clash}
use Rattle.ledger_machine.specs.Base.{clash_reply}
use Rattle.ledger_machine.specs.Scripts.{drops_in, close_in, resolution_in, flags_in}
use Rattle.ledger_machine.specs.Sessions.{without_session}

-- the header after its parent; the fields are total drops, close time, resolution and flags
abbrev pub closing_header : Half → Session → Bytes → List ℕ → Bytes
closing_header half e parent fields = header_bytes record {
  seq = seq_of parent + 1;
  drops = drops_in fields;
  parent = e.base;
  tx_root = root_of half txs e.txs;
  state_root = root_of half accounts e.accounts;
  parent_close = close_of parent;
  close = close_in fields;
  resolution = resolution_in fields;
  flags = flags_in fields;
}

abbrev pub new_header : Half → State → Session → List ℕ → Bytes
new_header half s e fields = closing_header half e (unwrap_or (header_in (form_in s) e.base) []) fields

-- the closing forms: the state map's, the transaction map's, then the header's
abbrev pub closing_forms : Half → Session → Bytes → List Bytes
closing_forms half e header = forms_of half accounts e.accounts ++ forms_of half txs e.txs ++ (header_prefix ++ header) ∷ []

abbrev pub clash_under : Hash → Bytes → Option Bytes → Option Clash
clash_under h form None = None
clash_under h form (Some old) = if same_bytes old form then None else Some (record { hash = h; old = old; new = form })

-- the first form whose hash is held with another form, by the store or by an earlier one
abbrev pub first_clash : Half → State → List Bytes → Option Clash
first_clash half s [] = None
first_clash half s (form ∷ rest) =
    option_or (clash_under (half form) form (form_in s (half form))) (first_clash half (with_form half s form) rest)

abbrev pub closed_or_clash : Hash → Option Clash → Reply
closed_or_clash h None = says.Close (close.Closed h)
closed_or_clash h (Some c) = clash_reply c

abbrev pub zero_or : Option Bytes → Reply → Reply
zero_or (Some form) rest = says.ZeroHash form
zero_or None rest = rest

abbrev pub close_outcome : Half → State → Session → Bytes → Reply
close_outcome half s e header =
    let forms = closing_forms half e header in
    let h = half (header_prefix ++ header) in
    if length e.accounts == 0 then says.Close close.ZeroState
    else if nat_lt (seq_of header) s.floor then says.Close (close.BelowFloor s.floor)
    else zero_or (find (λ form. is_zero (half form)) forms)
    (if has_in hash_cmp s.listed h then says.Close close.Listed else closed_or_clash h (first_clash half s forms))

abbrev pub close_given : Half → State → List ℕ → Option Session → Reply
close_given half s fields None = says.Close close.NoSession
close_given half s fields (Some e) = close_outcome half s e (new_header half s e fields)

abbrev pub close_reply : Half → State → ℕ × ℕ → List ℕ → Reply
close_reply half s x fields = close_given half s fields (get_in numbered_cmp s.sessions x)

-- the closing forms are stored, the new ledger is listed, the session has ended
abbrev pub closed : Half → State → ℕ × ℕ → List ℕ → Hash → Option Session → State
closed half s x fields h None = s
closed half s x fields h (Some e) =
    let header = new_header half s e fields in
    without_session (listed_with (with_forms half s (closing_forms half e header)) h (seq_of header)) x

abbrev pub after_close : Half → State → ℕ × ℕ → List ℕ → Reply → State
after_close half s x fields (says.Close (close.Closed h)) = closed half s x fields h (get_in numbered_cmp s.sessions x)
after_close half s x fields _ = s

-- the forms of the ledger that a session closes into
abbrev pub closes_into : Half → State → List ℕ → Option Session → List Bytes
closes_into half s fields None = []
closes_into half s fields (Some e) = closing_forms half e (new_header half s e fields)

-- the forms, where none of them has the zero hash
abbrev pub unless_zero : Option Bytes → List Bytes → List Bytes
unless_zero None forms = forms
unless_zero (Some form) forms = []

-- the forms that a close would store: none where one of them has the zero hash
abbrev pub close_forms : Half → State → ℕ × ℕ → List ℕ → List Bytes
close_forms half s x fields =
    let forms = closes_into half s fields (get_in numbered_cmp s.sessions x) in
    unless_zero (find (λ form. is_zero (half form)) forms) forms
