-- The lines of a script are lines that a core takes.
use Rattle.std.proofs.Common.{◌≡◌, ◌≢◌, inl, inr, ℕ, suc, ◌+◌, ◌<◌, ◌≤◌, ◌^◌, List, [], ◌∷◌, ◌++◌, length, map, refl, sym, subst}
use Rattle.std.proofs.Common.{arith, length-append}
use Rattle.std.specs.Prelude.{IsTrue}
use Rattle.std.specs.List.{All, Contains}
use Rattle.std.proofs.lemmas.List.{map-append}
use Rattle.std.proofs.lemmas.List.Elements.{All-push, All-weaker, All-contains, All-map, Contains-append_left}
use Rattle.ledger_spec.specs.Bytes.{Bytes, Hash, is_nonzero}
use Rattle.ledger_machine.specs.declared.commands.Command.{Command}
use Rattle.ledger_machine.specs.declared.commands.Line.{Line}
use Rattle.ledger_machine.specs.Commands.{IsInRange}
use Rattle.ledger_machine.specs.Scripts.{Rises, IsLedgerMap, AreBytes}
use Rattle.ledger_spec.specs.declared.Kind.{Kind}
use Rattle.ledger_spec.specs.declared.Kind.TheVariants.{State, Tx, Set}
use Rattle.shamap_node.specs.declared.parts.Item.{Item}
use Rattle.shamap_node.specs.Items.{Keeps}
use Rattle.script_form.specs.Servable.{WaitsForEarlier, AreServable}
use Rattle.script_form.specs.Causes.{call_in}
use Rattle.script_form.specs.declared.forms.Argument.{Argument}
use Rattle.script_form.specs.declared.forms.Argument.TheVariants as argument
use Rattle.script_form.specs.declared.forms.Form.{Form}
use Rattle.script_form.specs.declared.forms.Form.TheVariants as form
use Rattle.script_form.specs.Words.{IsKind}
use Rattle.script_form.specs.Commands.{arguments_in, ArgumentOf, SaysArgument, ArgumentsOf, SayArguments, Makes, CallSays}
use Rattle.script_form.specs.Grammar.{WordsSay}
use Rattle.script_form.proofs.ByteWords.{blob_bytes, hash_bytes, hash_size}

a_ledger_map : (word : Bytes) (kind : Kind) → IsKind word kind → IsLedgerMap kind
a_ledger_map word State is = tt
a_ledger_map word Tx is = tt
a_ledger_map word Set is = is

-- a key and data that are bytes make an item that is
item_known : (k : Hash) (bytes : Bytes) (item : Item) → AreBytes k → AreBytes bytes → Keeps item k bytes
    → AreBytes item.key × AreBytes item.value
item_known k bytes item key value keeps = (
  subst (λ (x : Bytes). AreBytes x) (sym keeps.key_is) key,
  subst (λ (x : Bytes). AreBytes x) (sym keeps.data_is) value,
)

-- what the ranges of commands ask of a value in an argument's place; of the other kinds they ask nothing
abbrev IsKnown : (a : Argument) → ArgumentOf a → Type 0
IsKnown (argument.Number most) n = n ≤ most
IsKnown (argument.Count most) n = (1 ≤ n) × (n ≤ most)
IsKnown argument.Target hash = IsTrue (is_nonzero hash) × (length hash ≡ 32) × AreBytes hash
IsKnown argument.Kind kind = IsLedgerMap kind
IsKnown argument.Blob bytes = AreBytes bytes
IsKnown argument.Data bytes = AreBytes bytes
IsKnown a v = Unit {0}

-- so for each argument in order
abbrev AreKnown : (arguments : List Argument) → ArgumentsOf arguments → Type 0
AreKnown [] v = Unit {0}
AreKnown (a ∷ arguments) v = IsKnown a v.0 × AreKnown arguments v.1

-- a word says such a value
is_known : (a : Argument) (word : Bytes) (v : ArgumentOf a) → SaysArgument a word v → IsKnown a v
is_known (argument.Number most) word n says = says.within
is_known (argument.Count most) word n says = (says.least, says.number.within)
is_known argument.Target word hash says = (says.nonzero, hash_size word hash says.digits, hash_bytes word hash says.digits)
is_known argument.Kind word kind says = a_ledger_map word kind says
is_known argument.Blob word bytes says = blob_bytes word bytes says
is_known argument.Data word bytes says = blob_bytes word bytes says.digits
is_known a word v says = tt

-- and words say such values
are_known : (arguments : List Argument) (words : List Bytes) (v : ArgumentsOf arguments) → SayArguments arguments words v
    → AreKnown arguments v
are_known [] words v says = tt
are_known (a ∷ arguments) [] v says = absurd says
are_known (a ∷ arguments) (word ∷ words) v says = (is_known a word v.0 says.0, are_known arguments words v.1 says.1)

-- what a form makes of such values is in range; a command without a line here has no range
form_known : (f : Form) (v : ArgumentsOf (arguments_in f)) (c : Command) → AreKnown (arguments_in f) v → Makes f v c → IsInRange c
form_known form.Want v c known is = subst (λ (x : Command). IsInRange x) (sym is) known.0.0
form_known form.Peer v c known is = subst (λ (x : Command). IsInRange x) (sym is) known.1.0.0
form_known form.Base v c known is = subst (λ (x : Command). IsInRange x) (sym is) (known.1.0.0, known.1.1.0, tt, tt)
form_known form.BaseState v c known is =
    subst (λ (x : Command). IsInRange x) (sym is) (known.1.0.0, known.1.1.0, known.1.1.1.0, tt)
form_known form.BaseTx v c known is =
    subst (λ (x : Command). IsInRange x) (sym is) (known.1.0.0, known.1.1.0, known.1.1.1.0, known.1.1.1.1.0)
form_known form.Node v c known is = subst (λ (x : Command). IsInRange x) (sym is) (known.1.0.0, known.1.1.0, known.1.1.1.1.0)
form_known form.Check v c known is = subst (λ (x : Command). IsInRange x) (sym is) known.0.0
form_known form.Tick v c known is = subst (λ (x : Command). IsInRange x) (sym is) known.0.0
form_known form.View v c known is = subst (λ (x : Command). IsInRange x) (sym is) known.1.0.0
form_known form.Get v c known is =
    subst (λ (x : Command). IsInRange x) (sym is) (known.1.1.0.0, known.1.1.0.1, known.1.1.0.2, known.1.0)
form_known form.Page v c known is =
    subst (λ (x : Command). IsInRange x) (sym is) (known.1.0, known.1.1.1.0.0, known.1.1.1.0.1)
form_known form.Edit v c known is = subst (λ (x : Command). IsInRange x) (sym is) known.1.0.0
form_known form.Put v c known is =
    subst (λ (x : Command). IsInRange x) (sym is.2) (item_known v.1.0 v.1.1.0 is.0 known.1.0.2 known.1.1.0 is.1)
form_known form.Del v c known is =
    subst (λ (x : Command). IsInRange x) (sym is) (known.1.0.0, known.1.0.1, known.1.0.2)
form_known form.Tx v c known is =
    subst (λ (x : Command). IsInRange x) (sym is.2) (item_known v.1.0 v.1.1.0 is.0 known.1.0.2 known.1.1.0 is.1)
form_known form.Close v c known is =
    let drops : v.1.0 ≤ 18446744073709551615 = known.1.0 in
    let time : v.1.1.0 ≤ 4294967295 = known.1.1.0 in
    let resolution : v.1.1.1.0 ≤ 255 = known.1.1.1.0 in
    let flags : v.1.1.1.1.0 ≤ 255 = known.1.1.1.1.0 in
    subst (λ (x : Command). IsInRange x) (sym is) (record {
      count = refl;
      drops = omega (arith, drops);
      close = omega (arith, time);
      resolution = omega (arith, resolution);
      flags = omega (arith, flags);
    })
form_known f v c known is = subst (λ (x : Command). IsInRange x) (sym is) tt

-- what is known of a line that words say
pub record Known (earlier : List ℕ) (l : Line) : Type 0 where
  pub actor : l.actor < 64
  pub in_range : IsInRange l.command
  pub waits : l.after ≢ 0 → Contains earlier l.after

call_known : (call : List Bytes) (c : Command) → CallSays call c → IsInRange c
call_known [] c says = absurd says
call_known (word ∷ args) c says =
    let said = says.2 in form_known says.0 said.0 c (are_known (arguments_in says.0) args said.0 said.1) said.2

pub known : (earlier : List ℕ) (words : List Bytes) (l : Line) → WordsSay earlier words l → Known earlier l
known earlier [] l says = absurd says
known earlier (actor ∷ words) l says =
    record {
      actor = omega (arith, says.0.within);
      in_range = call_known (call_in words) l.command says.2;
      waits = λ some. elim says.1 [ inl free ↦ absurd (some free.1) | inr named ↦ named.1.found ];
    }

rises_more : (m : ℕ) (lines : List Line) (l : Line) → Rises m lines → m < l.number → All (λ x. x.number < l.number) lines
    → Rises m (lines ++ l ∷ [])
rises_more m [] l rises more below = (more, tt)
rises_more m (x ∷ lines) l rises more below =
    (rises.0, rises_more x.number lines l rises.1 (below 0 x (omega arith)) (λ k d lt. below (suc k) d (omega arith)))

pub nothing_servable : AreServable []
nothing_servable = record {
  actors_known = λ k d lt. absurd (omega arith);
  numbers_rise = tt;
  in_range = λ k d lt. absurd (omega arith);
  waiting = λ k d lt. absurd (omega arith);
  few = omega arith;
}

-- one line more
pub servable_more : (lines : List Line) (l : Line) → AreServable lines → 0 < l.number → All (λ x. x.number < l.number) lines
    → length lines + 1 < 2 ^ 32 → Known (map (λ x. x.number) lines) l → AreServable (lines ++ l ∷ [])
servable_more lines l s some below few k = record {
  actors_known = All-push (λ x. x.actor < 64) lines l s.actors_known k.actor;
  numbers_rise = rises_more 0 lines l s.numbers_rise some below;
  in_range = All-push (λ x. IsInRange x.command) lines l s.in_range k.in_range;
  waiting = All-push (WaitsForEarlier (lines ++ l ∷ [])) lines l
      (All-weaker (WaitsForEarlier lines) (WaitsForEarlier (lines ++ l ∷ [])) wider lines s.waiting) here;
  few = omega (arith, few, length-append lines (l ∷ []));
}
  where
    more : (n : ℕ) → Contains (map (λ x. x.number) lines) n → Contains (map (λ x. x.number) (lines ++ l ∷ [])) n
    more n among =
        subst (λ (ns : List ℕ). Contains ns n) (sym (map-append (λ (x : Line). x.number) lines (l ∷ [])))
        (Contains-append_left (map (λ x. x.number) lines) (l.number ∷ []) n among)

    wider : (x : Line) → WaitsForEarlier lines x → WaitsForEarlier (lines ++ l ∷ []) x
    wider x waits some = let w = waits some in (w.0, more x.after w.1)

    here : WaitsForEarlier (lines ++ l ∷ []) l
    here some =
        let among = k.waits some in (
          All-contains (λ n. n < l.number) (map (λ x. x.number) lines) l.after
              (All-map (λ n. n < l.number) (λ (x : Line). x.number) lines below) among,
          more l.after among,
        )
