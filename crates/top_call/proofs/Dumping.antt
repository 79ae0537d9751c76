-- How a dump goes on.
use Rattle.std.proofs.Common.{◌≡◌, arith, subst, Bool, IsTrue, List, [], ◌∷◌, ◌++◌, Option, None, Some, Result, Ok, Err, refl, sym, ap, ◌∙◌}
use Rattle.std.proofs.Common.{append_assoc}
use Rattle.std.specs.Prelude.{flat_map, IfSome}
use Rattle.std.specs.List.{filter}
use Rattle.std.proofs.lemmas.List.{append-nil, flat_map_more}
use mathlib.Core.List.{IsPrefix}
use Rattle.ledger_spec.specs.Bytes.{Bytes, Hash, Nodes}
use Rattle.ledger_machine.specs.declared.commands.Record.{Record}
use Rattle.run_io.specs.Bytes.{Wrote, WrotePart}
use Rattle.run_io.proofs.shared.Bytes.{wrote_nothing, wrote_more, wrote_part, wrote_front}
use Rattle.journal_text.specs.Text.{record_text}
use Rattle.ledger_machine.specs.State.{State}
use Rattle.ledger_machine.specs.declared.commands.Line.{Line}
use Rattle.ledger_machine.specs.declared.journal.Entry.{Entry}
use Rattle.core_machine.specs.Totals.{totals_of}
use Rattle.top_call.specs.Output.{output}
use Rattle.top_call.specs.Top.{text_of}
use Rattle.store_core.specs.Journal.{CoreView}
use Rattle.core_machine.specs.Dumping.{comes_after, records_of, records_after, IsNextRecord, Follows}
use Rattle.store_core.specs.Dumping.{Lists}
use Rattle.std.specs.Result.{IsErrAnd}
use Rattle.run_io.specs.declared.io.AllFault.{AllFault}
use Rattle.run_io.specs.declared.io.AllFault.TheVariants as sinks
use Rattle.top_call.specs.declared.dump.DumpFault.{DumpFault}
use Rattle.top_call.specs.Dump.{dump_text, of_sink, AreRising, AreLines, AreFront, IsDumped, Dumps, LeavesCore}
use Rattle.top_call.specs.declared.dump.DumpEnd.TheVariants as ends
use Rattle.top_call.proofs.Printed.{prefix_self}

-- the hash of the last record, or this one where there is none
abbrev pub last_hash : Option Hash → List Record → Option Hash
last_hash after [] = after
last_hash after (r ∷ records) = last_hash (Some r.hash) records

-- the records up to here were printed, and those that come after are left
pub record IsGoing (told : Bool) (nodes : Nodes) (last : Option Hash) (held now : Option Bytes) : Type 0 where
  pub text : Bytes
  pub wrote : Wrote held now text
  pub lines : AreLines text
  pub behind : last_hash None lines.records ≡ last
  pub rest : IsTrue told → text ++ flat_map record_text (records_after nodes last) ≡ dump_text nodes

all_after : (rs : List Record) → filter (λ r. comes_after None r.hash) rs ≡ rs
all_after [] = refl
all_after (r ∷ rs) = ap (λ (x : List Record). r ∷ x) (all_after rs)

-- a record more, whose hash comes after the last one's
rising_more : (after : Option Hash) (rs : List Record) (r : Record) → AreRising after rs → Follows (last_hash after rs) r.hash
    → AreRising after (rs ++ r ∷ [])
rising_more after [] r rising follows = (follows, tt)
rising_more after (x ∷ rs) r rising follows = (rising.0, rising_more (Some x.hash) rs r rising.1 follows)

last_more : (after : Option Hash) (rs : List Record) (r : Record) → last_hash after (rs ++ r ∷ []) ≡ Some r.hash
last_more after [] r = refl
last_more after (x ∷ rs) r = last_more (Some x.hash) rs r

abbrev lines_more : (text : Bytes) (last : Option Hash) (r : Record) (lines : AreLines text) → last_hash None lines.records ≡ last
    → Follows last r.hash → AreLines (text ++ record_text r)
lines_more text last r lines behind follows = record {
  records = lines.records ++ r ∷ [];
  rising = rising_more None lines.records r lines.rising (subst (λ (x : Option Hash). Follows x r.hash) (sym behind) follows);
  lines = ap (λ (x : Bytes). x ++ record_text r) lines.lines ∙ flat_map_more record_text [] lines.records r;
}

pub dump_starts : (told : Bool) (nodes : Nodes) (held : Option Bytes) → IsGoing told nodes None held held
dump_starts told nodes held = record {
  text = [];
  wrote = wrote_nothing held;
  lines = record { records = []; rising = tt; lines = refl };
  behind = refl;
  rest = λ t. ap (flat_map record_text) (all_after (records_of nodes));
}

-- lines are a front of themselves
all_front : (text : Bytes) → AreLines text → AreFront text
all_front text lines = record { all = text; lines = lines; front = prefix_self text text refl }

-- nothing is a front
pub none_front : AreFront []
none_front = all_front [] (record { records = []; rising = tt; lines = refl })

module _ (told : Bool) (nodes : Nodes) (last : Option Hash) (held now : Option Bytes) (going : IsGoing told nodes last held now) where
  -- a record more
  pub dump_goes : (now' : Option Bytes) (r : Record) → Follows last r.hash → (IsTrue told → IsNextRecord nodes last (Some r))
      → Wrote now now' (record_text r) → IsGoing told nodes (Some r.hash) held now'
  dump_goes now' r follows next wrote = record {
    text = going.text ++ record_text r;
    wrote = wrote_more held now now' going.text (record_text r) going.wrote wrote;
    lines = lines_more going.text last r going.lines going.behind follows;
    behind = last_more None going.lines.records r;
    rest = λ t.
        append_assoc going.text (record_text r) (flat_map record_text (records_after nodes (Some r.hash)))
        ∙ ap (λ (rs : List Record). going.text ++ flat_map record_text rs) (sym (next t)) ∙ going.rest t;
  }

  -- all of them
  pub dump_ends : (IsTrue told → IsNextRecord nodes last None) → (text : Bytes) × IsDumped told nodes ends.Whole text × Wrote held now text
  dump_ends none = (
    going.text,
    (
      going.lines,
      λ t. sym (append-nil going.text) ∙ ap (λ (rs : List Record). going.text ++ flat_map record_text rs) (sym (none t)) ∙ going.rest t,
    ),
    going.wrote,
  )

  front : IsTrue told → IsPrefix going.text (dump_text nodes)
  front t = (flat_map record_text (records_after nodes last), going.rest t)

  -- the store failed
  pub dump_faulted : (text : Bytes) × IsDumped told nodes ends.Faulted text × Wrote held now text
  dump_faulted = (going.text, (going.lines, front), going.wrote)

  -- memory was wanted before a record was printed
  pub dump_wanted : (text : Bytes) × IsDumped told nodes ends.Cut text × WrotePart held now text
  dump_wanted = (
    going.text,
    (all_front going.text going.lines, front),
    wrote_front held now going.text going.text going.wrote (prefix_self going.text going.text refl),
  )

  -- a record was printed in part
  pub dump_cut : (now' : Option Bytes) (r : Record) → Follows last r.hash → (IsTrue told → IsNextRecord nodes last (Some r))
      → WrotePart now now' (record_text r) → (text : Bytes) × IsDumped told nodes ends.Cut text × WrotePart held now' text
  dump_cut now' r follows next part = (
    going.text ++ record_text r,
    (
      all_front (going.text ++ record_text r) (lines_more going.text last r going.lines going.behind follows),
      λ t. (
        flat_map record_text (records_after nodes (Some r.hash)),
        append_assoc going.text (record_text r) (flat_map record_text (records_after nodes (Some r.hash)))
            ∙ ap (λ (rs : List Record). going.text ++ flat_map record_text rs) (sym (next t)) ∙ going.rest t,
      ),
    ),
    wrote_part held now now' going.text (record_text r) (going.text ++ record_text r) going.wrote part
        (prefix_self (going.text ++ record_text r) (going.text ++ record_text r) refl),
  )

pub lists_none : (told : Bool) (c : CoreView) → LeavesCore told c c
lists_none told c = record {
  records = refl;
  lines = refl;
  interval = refl;
  opened = refl;
  journal = refl;
  later = omega arith;
  state = λ t. refl;
  tables = refl;
  views = refl;
  marks = refl;
  hunts = refl;
  slices = refl;
}

-- one call for a record more
pub lists_then : (told : Bool) (a b c : CoreView) → LeavesCore told a b → Lists told b c → LeavesCore told a c
lists_then told a b c p q = record {
  records = q.records ∙ p.records;
  lines = q.lines ∙ p.lines;
  interval = q.interval ∙ p.interval;
  opened = q.opened ∙ p.opened;
  journal = q.journal ∙ p.journal;
  later = omega (arith, p.later, q.later);
  state = λ t. q.state t ∙ p.state t;
  tables = q.tables ∙ ap (λ (s : State). record s { nodes = c.state.nodes; born = c.state.born }) p.tables;
  views = q.views ∙ p.views;
  marks = q.marks ∙ p.marks;
  hunts = q.hunts ∙ p.hunts;
  slices = q.slices ∙ p.slices;
}

-- what a core says of its next record, said of the first core and of other names
pub next_of_core : (s s' : State) (a b : Option Hash) (o : Option Record) (r : Record) → s' ≡ s → a ≡ b → o ≡ Some r
    → IsNextRecord s'.nodes a o → IsNextRecord s.nodes b (Some r)
next_of_core s s' a b o r same name found is =
    subst (λ (x : State). IsNextRecord x.nodes b (Some r)) same (subst (λ (x : Option Hash). IsNextRecord s'.nodes x (Some r)) name
    (subst (λ (x : Option Record). IsNextRecord s'.nodes a x) found is))

pub follows_as : (a b : Option Hash) (o : Option Record) (r : Record) → a ≡ b → o ≡ Some r → IfSome o (λ x. Follows a x.hash)
    → Follows b r.hash
follows_as a b o r name found follows =
    subst (λ (x : Option Hash). Follows x r.hash) name (subst (λ (x : Option Record). IfSome x (λ y. Follows a y.hash)) found follows)

-- what printing met ends the dump
pub cut_by : (told : Bool) (nodes : Nodes) (held now : Option Bytes) (r : Result (Unit {0}) DumpFault) (e : AllFault)
    → IsErrAnd r (λ y. y ≡ of_sink e) → (text : Bytes) × IsDumped told nodes ends.Cut text × WrotePart held now text
    → Dumps told nodes held now r
cut_by told nodes held now (Ok u) e is cut = absurd is
cut_by told nodes held now (Err y) e is cut = subst (λ (x : DumpFault). Dumps told nodes held now (Err x)) (sym is) (at e)
  where
    at : (e : AllFault) → Dumps told nodes held now (Err (of_sink e))
    at sinks.Fault = cut
    at sinks.Memory = cut

-- what is printed before a dump is as it was
pub text_same : (told quiet : Bool) (c c' : CoreView) → LeavesCore told c c' → text_of quiet c' ≡ text_of quiet c
text_same told quiet c c' lists =
    ap (λ (s : State). output quiet c'.lines c'.journal (totals_of c'.journal s)) lists.tables
    ∙ ap (λ (ls : List Line). output quiet ls c'.journal (totals_of c'.journal c.state)) lists.lines
    ∙ ap (λ (es : List Entry). output quiet c.lines es (totals_of es c.state)) lists.journal
