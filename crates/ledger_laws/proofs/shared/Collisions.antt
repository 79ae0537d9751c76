-- A clash shows two different forms with one hash, and a zero hash a form that has it, of those that a run brings. For proofs of other
-- crates.
use Rattle.std.proofs.Common.{◌≡◌, ⊎_elim, ℕ, Bool, true, false, if◌then◌else◌, ◌==◌}
use Rattle.std.proofs.Common.{nat_lt, IsTrue, List, [], ◌∷◌, ◌++◌, length}
use Rattle.std.proofs.Common.{Option, None, Some, Err, All, Contains, refl, sym, subst}
use Rattle.std.specs.Option.{option_or}
use Rattle.std.specs.List.{find}
use Rattle.std.specs.FinMap as finite
use Rattle.std.proofs.lemmas.List.Elements.{All-nil, All-cons, All-weaker, All-contains, Contains-append_left, Contains-append_right}
use Rattle.ledger_spec.specs.declared.Kind.TheVariants as kinds
use Rattle.ledger_spec.specs.Maps.{hash_cmp, numbered_cmp, get_in, has_in}
use Rattle.ledger_spec.specs.Bytes.{Bytes, Hash, Half, Lookup, is_zero, same_bytes}
use Rattle.ledger_spec.specs.Header.{seq_of}
use Rattle.ledger_spec.specs.Forms.{Held, header_prefix}
use Rattle.ledger_spec.specs.Wire.{read_wire}
use Rattle.ledger_machine.specs.declared.commands.Command.{Command}
use Rattle.ledger_machine.specs.declared.commands.Command.TheVariants as command
use Rattle.ledger_machine.specs.declared.commands.Line.{Line}
use Rattle.ledger_machine.specs.declared.commands.Record.{Record}
use Rattle.ledger_machine.specs.Records.{AreRecords, forms_of}
use Rattle.ledger_machine.specs.declared.journal.Entry.{Entry}
use Rattle.ledger_machine.specs.declared.commands.Reply.{Reply}
use Rattle.ledger_machine.specs.declared.commands.Reply.TheVariants as says
use Rattle.ledger_machine.specs.State.{State, Session, form_in, with_form, with_forms}
use Rattle.ledger_spec.specs.Bases.{given, root_forms, behind_header, behind_state, base_outcome}
use Rattle.ledger_spec.specs.Offers.{Clash, head_outcome, node_outcome}
use Rattle.ledger_machine.specs.Base.{base_reply}
use Rattle.ledger_spec.specs.Offers.{head_forms}
use Rattle.ledger_machine.specs.Steps.{Step, IsRow}
use Rattle.ledger_machine.specs.Runs.{Run, IsRunOf, used_by, opening_of}
use Rattle.ledger_machine.specs.Collisions.{part_form, head_form, offered_by, offered_in, Clashes, made_by, made_along}
use Rattle.ledger_machine.specs.Collisions.{brought_by, ShowsIn}
use Rattle.ledger_machine.specs.declared.commands.CloseReply.TheVariants as close
use Rattle.ledger_machine.specs.Closing.{new_header, closing_forms, clash_under, first_clash, closed_or_clash, zero_or, close_given}
use Rattle.ledger_machine.specs.Closing.{closes_into}
use Rattle.ledger_laws.proofs.shared.SoundForms.{in_head, in_tail, forms_looked_up}
use Rattle.ledger_laws.proofs.SoundRuns.{line_at}
use Rattle.ledger_laws.proofs.Openings.{stored_all, none_in_empty, forms_among}
use Rattle.ledger_laws.proofs.Offered.{AreFrom, IsFrom, with_form_from, with_forms_from, head_read, root_read, of_head, of_state, of_tx}
use Rattle.ledger_laws.proofs.Clashing.{find_holds, IsClashIn, step_from, found_other, head_clash, read_clash, root_clash, more_from}
use Rattle.ledger_laws.proofs.Clashing.{parts_clash, base_present, node_present, no_zero_base, no_zero_node}

module _ (half : Half) (forms : List Bytes) where
  -- a clash in the answer to a base reply
  base_clash : (s : State) (p : ℕ) (t : Hash) (bytes : Bytes) (state tx : Option Bytes) (h : Hash) (old new : Bytes)
      → ((form : Bytes) → Contains (head_form bytes ++ part_form half state ++ part_form half tx) form → Contains forms form)
      → IsFrom half forms s → base_reply half s p t bytes state tx ≡ says.Clash h old new → Clashes half forms h old new
  base_clash s p t bytes state tx h old new each from e =
      let r : (c : Clash) × (base_outcome half (form_in s) t bytes state tx ≡ Err c)
      × (says.Clash c.hash c.old c.new ≡ says.Clash h old new) =
      base_present half s p t bytes state tx (get_in hash_cmp s.wanted t) h old new e in
      let shown : IsClashIn half forms r.0 =
      ⊎_elim (λ one. head_clash half forms (form_in s) t bytes r.0 from of_first one)
      (λ other. ⊎_elim (λ two. root_clash half forms first t kinds.State state r.0 first_from of_one two)
      (λ three. root_clash half forms second t kinds.Tx tx r.0 second_from of_other three) other)
      (parts_clash _ _ _ r.0 r.1) in
      subst (ShowsIn half forms) r.2 shown
    where
      first : Lookup
      first = behind_header half (form_in s) t bytes state tx

      second : Lookup
      second = behind_state half (form_in s) t bytes state tx

      F1 : List Bytes
      F1 = head_forms (head_outcome half (form_in s) t bytes) bytes

      F2 : List Bytes
      F2 = root_forms half first t kinds.State state

      of_first : (form : Bytes) → Contains (head_form bytes) form → Contains forms form
      of_first form c = each form (of_head half bytes state tx form c)

      of_one : (form : Bytes) → Contains (part_form half state) form → Contains forms form
      of_one form c = each form (of_state half bytes state tx form c)

      of_other : (form : Bytes) → Contains (part_form half tx) form → Contains forms form
      of_other form c = each form (of_tx half bytes state tx form c)

      among_first : (form : Bytes) → Contains F1 form → Contains forms form
      among_first form c = of_first form (head_read half (form_in s) t bytes form c)

      first_from : AreFrom half forms first
      first_from = more_from half forms s (form_in s) F1 refl among_first from

      second_from : AreFrom half forms second
      second_from =
          more_from half forms (with_forms half s F1) first F2 (forms_looked_up half s F1)
          (λ form c. of_one form (root_read half first t kinds.State state form c))
          (with_forms_from half forms s F1 among_first from)

  -- the first clash of several forms
  forms_clash : (s : State) (more : List Bytes) (c : Clash) → ((form : Bytes) → Contains more form → Contains forms form)
      → IsFrom half forms s → first_clash half s more ≡ Some c → IsClashIn half forms c
  forms_clash s [] c each from e = cc
  forms_clash s (form ∷ more) c each from e =
      by (form_in s (half form)) refl e (λ rest. forms_clash (with_form half s form) more c (λ f i. each f (in_tail form f more i))
      (with_form_from half forms s form (each form (in_head form more)) from) rest)
    where
      rest : Option Clash
      rest = first_clash half (with_form half s form) more

      by : (o : Option Bytes) → form_in s (half form) ≡ o → option_or (clash_under (half form) form o) rest ≡ Some c
          → (rest ≡ Some c → IsClashIn half forms c) → IsClashIn half forms c
      by None is e later = later e
      by (Some old) is e later =
          at (same_bytes old form) (record { hash = half form; old = old; new = form })
          (λ apart. found_other half forms (form_in s) (half form) old form from is refl (each form (in_head form more)) apart) e
        where
          at : (t : Bool) (d : Clash) → (t ≡ false → IsClashIn half forms d)
              → option_or (if t then None else Some d) rest ≡ Some c → IsClashIn half forms c
          at true d shown e = later e
          at false d shown e = let same : d ≡ c = cc in subst (IsClashIn half forms) same (shown refl)

  -- a clash or a zero hash of a close is one of its forms'
  close_shows : (s : State) (x : ℕ × ℕ) (fields : List ℕ) (o : Option Session) (reply : Reply)
      → ((form : Bytes) → Contains (closes_into half s fields o) form → Contains forms form) → IsFrom half forms s
      → close_given half s fields o ≡ reply → ShowsIn half forms reply
  close_shows s x fields None reply made from e = subst (ShowsIn half forms) e tt
  close_shows s x fields (Some e) reply made from is =
      let bytes : Bytes = new_header half s e fields in
      let all : List Bytes = closing_forms half e bytes in
      at (length e.accounts == 0) (nat_lt (seq_of bytes) s.floor) (find (λ f. is_zero (half f)) all) refl
      (has_in hash_cmp s.listed (half (header_prefix ++ bytes))) (first_clash half s all) refl is
    where
      whole : List Bytes
      whole = closing_forms half e (new_header half s e fields)

      at : (a b : Bool) (z : Option Bytes) → find (λ f. is_zero (half f)) whole ≡ z → (d : Bool) (c : Option Clash)
          → first_clash half s whole ≡ c
          → (if a then says.Close close.ZeroState else if b then says.Close (close.BelowFloor s.floor)
          else zero_or z (if d then says.Close close.Listed
          else closed_or_clash (half (header_prefix ++ new_header half s e fields)) c)) ≡ reply
          → ShowsIn half forms reply
      at true b z zero d c clash is = subst (ShowsIn half forms) is tt
      at false true z zero d c clash is = subst (ShowsIn half forms) is tt
      at false false (Some form) zero d c clash is =
          let found : Contains whole form × IsTrue (is_zero (half form)) = find_holds (λ f. is_zero (half f)) whole form zero in
          subst (ShowsIn half forms) is (made form found.0, found.1)
      at false false None zero true c clash is = subst (ShowsIn half forms) is tt
      at false false None zero false None clash is = subst (ShowsIn half forms) is tt
      at false false None zero false (Some c) clash is = subst (ShowsIn half forms) is (forms_clash s whole c made from clash)

  -- a clash in the answer of a row
  row_clash : (s : State) (a : ℕ) (c : Command) (h : Hash) (old new : Bytes)
      → ((form : Bytes) → Contains (offered_by half c) form → Contains forms form)
      → ((form : Bytes) → Contains (made_by half s a c) form → Contains forms form) → IsFrom half forms s
      → IsRow half s a c (says.Clash h old new) → Clashes half forms h old new
  row_clash s a (command.Base p t bytes state tx) h old new each made from e =
      base_clash s p t bytes state tx h old new each from (sym e)
  row_clash s a (command.Node p t kind path blob) h old new each made from e =
      let r : (c : Clash) × (node_outcome half (form_in s) t kind path blob ≡ Err c)
      × (says.Clash c.hash c.old c.new ≡ says.Clash h old new) =
      node_present half s p t kind path blob (get_in hash_cmp s.wanted t) h old new (sym e) in
      let shown : IsClashIn half forms r.0 = read_clash half forms (form_in s) t kind path (read_wire half blob) r.0 from each r.1 in
      subst (ShowsIn half forms) r.2 shown
  row_clash s a (command.Close x given) h old new each made from e =
      close_shows s (a, x) given (get_in numbered_cmp s.sessions (a, x)) (says.Clash h old new) made from (sym e)
  row_clash s a _ h old new each made from e = absurd e

  -- only a close has a zero hash in its answer
  row_zero : (s : State) (a : ℕ) (c : Command) (form : Bytes)
      → ((form : Bytes) → Contains (made_by half s a c) form → Contains forms form) → IsFrom half forms s
      → IsRow half s a c (says.ZeroHash form) → ShowsIn half forms (says.ZeroHash form)
  row_zero s a (command.Base p t bytes state tx) form made from e =
      absurd (no_zero_base half s p t bytes state tx (get_in hash_cmp s.wanted t) form (sym e))
  row_zero s a (command.Node p t kind path blob) form made from e =
      absurd (no_zero_node half s p t kind path blob (get_in hash_cmp s.wanted t) form (sym e))
  row_zero s a (command.Close x given) form made from e =
      close_shows s (a, x) given (get_in numbered_cmp s.sessions (a, x)) (says.ZeroHash form) made from (sym e)
  row_zero s a _ form made from e = absurd e

  -- a step that answers a clash or a zero hash shows it
  step_shows : (s : State) (a : ℕ) (c : Command) (reply : Reply) (used : List Held) (s' : State)
      → ((form : Bytes) → Contains (offered_by half c) form → Contains forms form)
      → ((form : Bytes) → Contains (made_by half s a c) form → Contains forms form)
      → IsFrom half forms s → Step half s a c reply used s' → ShowsIn half forms reply
  step_shows s a c (says.Clash h old new) used s' each made from step =
      row_clash s a c h old new each made from step.outcome.0
  step_shows s a c (says.ZeroHash form) used s' each made from step = row_zero s a c form made from step.outcome.0
  step_shows s a c _ used s' each made from step = tt

  -- and so does a run
  run_shows : (lines : List Line) (s : State) (entries : List Entry) (s' : State)
      → ((l : Line) → Contains lines l → (form : Bytes) → Contains (offered_by half l.command) form → Contains forms form)
      → IsFrom half forms s → (run : Run half lines s entries s')
      → ((form : Bytes) → Contains (made_along half lines s entries s' run) form → Contains forms form)
      → All (λ e. ShowsIn half forms e.reply) entries
  run_shows lines s [] s' each from run made = All-nil (λ e. ShowsIn half forms e.reply)
  run_shows lines s (e ∷ rest) s' each from run made =
      let line : Line = run.1.line in
      let among : Contains lines line = line_at lines run.1.place line run.1.stands in
      let here : List Bytes = made_by half s e.actor line.command in
      let behind : List Bytes = made_along half lines run.0 rest s' run.2 in
      let first : (form : Bytes) → Contains here form → Contains forms form =
      λ form c. made form (Contains-append_left here behind form c) in
      All-cons (λ x. ShowsIn half forms x.reply) e rest
      (step_shows s e.actor line.command e.reply (used_by e) run.0 (each line among) first from run.1.step)
      (run_shows lines run.0 rest s' each
      (step_from half forms s e.actor line.command e.reply (used_by e) run.0 (each line among) first from run.1.step)
      run.2 (λ form c. made form (Contains-append_right here behind form c)))

-- what a line offers is among what the lines offer
line_offers : (half : Half) (lines : List Line)
    → All (λ l. (form : Bytes) → Contains (offered_by half l.command) form → Contains (offered_in half [] lines) form) lines
line_offers half [] = All-nil (λ l. (form : Bytes) → Contains (offered_by half l.command) form → Contains (offered_in half [] []) form)
line_offers half (l ∷ lines) =
    All-cons (λ x. (form : Bytes) → Contains (offered_by half x.command) form → Contains (offered_in half [] (l ∷ lines)) form) l lines
    (λ form c. Contains-append_left (offered_by half l.command) (offered_in half [] lines) form c)
    (All-weaker (λ x. (form : Bytes) → Contains (offered_by half x.command) form → Contains (offered_in half [] lines) form)
    (λ x. (form : Bytes) → Contains (offered_by half x.command) form → Contains (offered_in half [] (l ∷ lines)) form)
    (λ x at form c. Contains-append_right (offered_by half l.command) (offered_in half [] lines) form (at form c)) lines
    (line_offers half lines))

module _ (half : Half) (records : List Record) (lines : List Line) where
  -- and so among what the script offers
  among_offered : (l : Line) → Contains lines l → (form : Bytes) → Contains (offered_by half l.command) form
      → Contains (offered_in half records lines) form
  among_offered l among form c =
      Contains-append_right (forms_of records) (offered_in half [] lines) form
      (All-contains (λ x. (form : Bytes) → Contains (offered_by half x.command) form → Contains (offered_in half [] lines) form) lines l
      (line_offers half lines) among form c)

  -- what is stored at first is what the script's records offer
  records_from : (interval : ℕ) → AreRecords half records → IsFrom half (offered_in half records lines) (opening_of records interval)
  records_from interval are =
      stored_all (λ h form. (h ≡ half form) × Contains (offered_in half records lines) form) finite.empty records
      (none_in_empty (λ h form. (h ≡ half form) × Contains (offered_in half records lines) form))
      (λ k d lt. let own = are.own k d lt in
      let among = forms_among records k d lt in
      (own.own, Contains-append_left (forms_of records) (offered_in half [] lines) _ among))

  -- each clash and each zero hash of a run from the script's records is shown by the forms that the run brings
  pub run_shown : (interval : ℕ) (entries : List Entry) (s' : State) → AreRecords half records
      → (run : IsRunOf half records lines interval entries s')
      → All (λ e. ShowsIn half (brought_by half records lines interval entries s' run) e.reply) entries
  run_shown interval entries s' are run =
      let offered : List Bytes = offered_in half records lines in
      let made : List Bytes = made_along half lines (opening_of records interval) entries s' run in
      run_shows half (offered ++ made) lines (opening_of records interval) entries s'
      (λ l among form c. Contains-append_left offered made form (among_offered l among form c))
      (λ h form e. let from = records_from interval are h form e in (from.0, Contains-append_left offered made form from.1)) run
      (λ form c. Contains-append_right offered made form c)

-- the same of one entry
pub entry_shown : (half : Half) (records : List Record) (lines : List Line) (interval : ℕ) (entries : List Entry) (s' : State)
    (e : Entry)
    → AreRecords half records → (run : IsRunOf half records lines interval entries s') → Contains entries e
    → ShowsIn half (brought_by half records lines interval entries s' run) e.reply
entry_shown half records lines interval entries s' e are run among =
    All-contains (λ x. ShowsIn half (brought_by half records lines interval entries s' run) x.reply) entries e
    (run_shown half records lines interval entries s' are run) among
