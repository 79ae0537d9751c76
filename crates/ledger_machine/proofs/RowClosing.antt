-- A close, tried on a state whose stored forms are given as a list of entries.
use Rattle.std.specs.Prelude.{◌≡◌, ℕ, ◌==◌, nat_lt, if◌then◌else◌, List, [], ◌∷◌, ◌++◌, length, Option}
use Rattle.std.specs.Prelude.{None, Some, refl}
use Rattle.std.specs.List.{find}
use Rattle.std.specs.Option.{option_or, unwrap_or}
use Rattle.std.proofs.Common.{ap, ap₂, ◌∙◌}
use Rattle.ledger_spec.specs.Maps.{hash_cmp, has_in}
use Rattle.ledger_spec.specs.Bytes.{Bytes, Hash, Half, Lookup, is_zero}
use Rattle.ledger_spec.specs.Forms.{header_prefix}
use Rattle.ledger_spec.specs.Header.{seq_of}
use Rattle.ledger_spec.specs.Offers.{Clash}
use Rattle.ledger_spec.specs.Spots.{header_in}
use Rattle.ledger_machine.specs.declared.commands.CloseReply.TheVariants as close
use Rattle.ledger_machine.specs.declared.commands.Reply.{Reply}
use Rattle.ledger_machine.specs.declared.commands.Reply.TheVariants as says
use Rattle.ledger_machine.specs.State.{State, Session, with_forms, listed_with}
use Rattle.ledger_machine.specs.Steps.{Gives}
use Rattle.ledger_machine.specs.Sessions.{without_session}
use Rattle.ledger_machine.specs.Closing.{closing_forms, clash_under, first_clash, closed_or_clash, zero_or, close_outcome, close_given}
use Rattle.ledger_machine.specs.Closing.{closed, new_header, closing_header}
use Rattle.ledger_machine.proofs.RowSteps.{Entries, in_list, over, lookup_of, with_entry, with_birth, with_entries, with_births}
use Rattle.ledger_machine.proofs.RowSteps.{with_form_over, with_forms_over, gives}

module _ (half : Half) where
  -- the first clash, as a list of entries shows it
  abbrev pub clash_in : Entries → List Bytes → Option Clash
  clash_in es [] = None
  clash_in es (form ∷ rest) = option_or (clash_under (half form) form (in_list es (half form)))
      (clash_in (with_entry half es form) rest)

  pub first_clash_over : (s : State) (es : Entries) (born : List Hash) (forms : List Bytes)
      → first_clash half (over s es born) forms ≡ clash_in es forms
  first_clash_over s es born [] = refl
  first_clash_over s es born (form ∷ rest) =
      ap₂ option_or (ap (λ (n : Lookup). clash_under (half form) form (n (half form))) (lookup_of es))
      (ap (λ t. first_clash half t rest) (with_form_over half s es born form)
      ∙ first_clash_over s (with_entry half es form) (with_birth half es born form) rest)

  -- what a close answers, given its forms and the first clash
  abbrev pub outcome_by : State → Session → Bytes → List Bytes → Option Clash → Reply
  outcome_by s e header forms clash =
      let h = half (header_prefix ++ header) in
      if length e.accounts == 0 then says.Close close.ZeroState
      else if nat_lt (seq_of header) s.floor then says.Close (close.BelowFloor s.floor)
      else zero_or (find (λ form. is_zero (half form)) forms)
      (if has_in hash_cmp s.listed h then says.Close close.Listed else closed_or_clash h clash)

  pub outcome_over : (s : State) (es : Entries) (born : List Hash) (e : Session) (header : Bytes) (forms : List Bytes)
      (reply : Reply)
      → closing_forms half e header ≡ forms → outcome_by s e header forms (clash_in es forms) ≡ reply
      → close_outcome half (over s es born) e header ≡ reply
  outcome_over s es born e header forms reply are is =
      ap (λ fs. outcome_by (over s es born) e header fs (first_clash half (over s es born) fs)) are
      ∙ ap (outcome_by (over s es born) e header forms) (first_clash_over s es born forms) ∙ is

  -- the header that a close makes, as a list of entries shows it
  abbrev pub header_over : Entries → Session → List ℕ → Bytes
  header_over es e fields = closing_header half e (unwrap_or (header_in (in_list es) e.base) []) fields

  pub new_header_over : (s : State) (es : Entries) (born : List Hash) (e : Session) (fields : List ℕ)
      → new_header half (over s es born) e fields ≡ header_over es e fields
  new_header_over s es born e fields = ap (λ (nodes : Lookup). closing_header half e (unwrap_or (header_in nodes e.base) [])
      fields) (lookup_of es)

  -- the state after a close
  abbrev pub closed_by : State → Entries → List Hash → ℕ × ℕ → Bytes → List Bytes → Hash → State
  closed_by s es born x header forms h = without_session (listed_with
      (over s (with_entries half s es forms) (with_births half s es born forms)) h (seq_of header)) x

  -- a session's close answers so
  pub close_says : (s : State) (es : Entries) (born : List Hash) (e : Session) (fields : List ℕ) (header : Bytes)
      (forms : List Bytes) (reply : Reply)
      → header_over es e fields ≡ header → closing_forms half e header ≡ forms
      → outcome_by s e header forms (clash_in es forms) ≡ reply
      → close_given half (over s es born) fields (Some e) ≡ reply
  close_says s es born e fields header forms reply is are says =
      ap (close_outcome half (over s es born) e) (new_header_over s es born e fields ∙ is)
      ∙ outcome_over s es born e header forms reply are says

  -- a session's close answers so, and stores these forms
  pub close_gives : (s : State) (es : Entries) (born : List Hash) (e : Session) (x : ℕ × ℕ) (fields : List ℕ) (header : Bytes)
      (forms : List Bytes) (h : Hash) (s' : State)
      → header_over es e fields ≡ header → closing_forms half e header ≡ forms
      → outcome_by s e header forms (clash_in es forms) ≡ says.Close (close.Closed h)
      → closed_by s es born x header forms h ≡ s'
      → Gives (close_given half (over s es born) fields (Some e)) (closed half (over s es born) x fields h (Some e))
      (says.Close (close.Closed h)) s'
  close_gives s es born e x fields header forms h s' is are says after =
      gives (close_says s es born e fields header forms _ is are says)
      (ap (λ b. without_session (listed_with (with_forms half (over s es born) (closing_forms half e b)) h (seq_of b)) x) own
      ∙ ap (λ fs. without_session (listed_with (with_forms half (over s es born) fs) h (seq_of header)) x) are
      ∙ ap (λ t. without_session (listed_with t h (seq_of header)) x) (with_forms_over half s es born forms) ∙ after)
    where
      own : new_header half (over s es born) e fields ≡ header
      own = new_header_over s es born e fields ∙ is
