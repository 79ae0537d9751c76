-- What a read says is what every map with the view's root says, or two nodes show one hash. For proofs of other crates.
use Rattle.std.proofs.Common.{◌≡◌, ◌≢◌, ℕ, List, [], ◌∷◌, Option, None, Some, Contains, sym, ◌∙◌, subst}
use Rattle.ledger_spec.specs.declared.Kind.{Kind}
use Rattle.ledger_spec.specs.declared.Kind.TheVariants.{State, Tx, Set}
use Rattle.ledger_spec.specs.Bytes.{Hash, Half, IsHalf, Items}
use Rattle.ledger_spec.specs.Forms.{Held}
use Rattle.ledger_spec.specs.Pages.{IsPageOrShows}
use Rattle.ledger_spec.specs.Reads.{Outcome, AreNodes}
use Rattle.tree_laws.proofs.shared.ByteItems.{is_key}
use Rattle.tree_laws.proofs.shared.PathLaw.{answers_or_shows}
use Rattle.path_proof.proofs.shared.PathLaws.{nodes_are}
use Rattle.ledger_machine.specs.declared.commands.Command.{Command}
use Rattle.ledger_machine.specs.declared.commands.Command.TheVariants as command
use Rattle.ledger_machine.specs.declared.commands.Line.{Line}
use Rattle.ledger_machine.specs.declared.journal.Entry.{Entry}
use Rattle.ledger_machine.specs.declared.commands.Reply.{Reply}
use Rattle.ledger_machine.specs.declared.commands.Reply.TheVariants as says
use Rattle.ledger_machine.specs.declared.commands.GetReply.TheVariants as gets
use Rattle.ledger_machine.specs.declared.commands.PageReply.TheVariants as pages
use Rattle.ledger_machine.specs.Commands.{IsInRange}
use Rattle.ledger_machine.specs.Scripts.{IsLedgerMap}
use Rattle.ledger_machine.specs.State as machine
use Rattle.ledger_machine.specs.Steps.{Step, Gets, Pages}
use Rattle.ledger_machine.specs.Reading.{view_root, outcome_of, page_of, IsRead, IsPage}
use Rattle.ledger_machine.specs.Runs.{Run, used_by}
use Rattle.ledger_machine.specs.Exact.{IsEveryMaps, AreEveryMaps}
use Rattle.ledger_laws.proofs.SoundRuns.{line_at}

-- a ledger's map is no set
no_set : (kind : Kind) → IsLedgerMap kind → kind ≢ Set
no_set State is e = cc
no_set Tx is e = cc
no_set Set is e = is

some_is : {X : Type 0} {a b : X} → Some a ≡ Some b → a ≡ b
some_is e = cc

-- a read of an open view was read along the path
read_of : (half : Half) (s : machine.State) (kind : Kind) (key root : Hash) (o : Option Hash) (reply : Reply) (used : List Held)
    (s' : machine.State) → o ≡ Some root → Gets half s kind key o reply used s' → IsRead half kind key root reply used
read_of half s kind key root None reply used s' is g = cc
read_of half s kind key root (Some r) reply used s' is g =
    let same : r ≡ root = some_is is in subst (λ x. IsRead half kind key x reply used) same g.0

-- only the row of `get` says anything of a key
row_read : (half : Half) (s : machine.State) (a v : ℕ) (kind : Kind) (key : Hash) (reply : Reply) (used : List Held) (s' : machine.State)
    (outcome : Outcome) → outcome_of reply ≡ Some outcome → Step half s a (command.Get v kind key) reply used s'
    → Gets half s kind key (view_root s kind (a, v)) reply used s'
row_read half s a v kind key (says.Get gets.Nothing) used s' outcome is step = step.outcome
row_read half s a v kind key (says.Get (gets.Value n)) used s' outcome is step = step.outcome
row_read half s a v kind key _ used s' outcome is step = cc

-- so is what a step of `get` says of the key
get_exact : (half : Half) → IsHalf half → (s : machine.State) (a v : ℕ) (kind : Kind) (key : Hash) (reply : Reply) (used : List Held)
    (s' : machine.State) → IsInRange (command.Get v kind key) → AreNodes half kind used
    → Step half s a (command.Get v kind key) reply used s' → IsEveryMaps half s a (command.Get v kind key) reply used
get_exact half sized s a v kind key reply used s' range nodes step root outcome viewed said =
    let read : IsRead half kind key root reply used =
    read_of half s kind key root (view_root s kind (a, v)) reply used s' viewed
    (row_read half s a v kind key reply used s' outcome said step) in
    answers_or_shows half sized.size kind root key used outcome (is_key key range.1 range.2) nodes (read.says ∙ said)

-- a page of an open view is of its root
page_at : (half : Half) (s : machine.State) (kind : Kind) (key root : Hash) (n : ℕ) (o : Option Hash) (reply : Reply) (used : List Held)
    (s' : machine.State) → o ≡ Some root → Pages half s kind key n o reply used s' → IsPage half s kind key n root reply used
page_at half s kind key root n None reply used s' is g = cc
page_at half s kind key root n (Some r) reply used s' is g =
    let same : r ≡ root = some_is is in subst (λ x. IsPage half s kind key n x reply used) same g.0

-- only the row of `page` lists items
row_paged : (half : Half) (s : machine.State) (a v : ℕ) (kind : Kind) (key : Hash) (n : ℕ) (reply : Reply) (used : List Held)
    (s' : machine.State) (page : Items) → page_of reply ≡ Some page → Step half s a (command.Page v kind key n) reply used s'
    → Pages half s kind key n (view_root s kind (a, v)) reply used s'
row_paged half s a v kind key n (says.Page (pages.Items leaves)) used s' page is step = step.outcome
row_paged half s a v kind key n _ used s' page is step = cc

-- so is what a step of `page` lists
page_exact : (half : Half) (s : machine.State) (a v : ℕ) (kind : Kind) (key : Hash) (n : ℕ) (reply : Reply) (used : List Held)
    (s' : machine.State) → Step half s a (command.Page v kind key n) reply used s'
    → IsEveryMaps half s a (command.Page v kind key n) reply used
page_exact half s a v kind key n reply used s' step root page viewed listed =
    let paged : IsPage half s kind key n root reply used =
    page_at half s kind key root n (view_root s kind (a, v)) reply used s' viewed
    (row_paged half s a v kind key n reply used s' page listed step) in
    subst (λ x. IsPageOrShows half kind root key n used x) (some_is (sym paged.says ∙ listed)) paged.every

-- the nodes of an entry have forms
entry_nodes : (half : Half) (kind : Kind) → IsLedgerMap kind → (e : Entry) → AreNodes half kind (used_by e)
entry_nodes half kind is e = nodes_are half kind (no_set kind is) e.used.items

-- each entry of a run
pub entry_exact : (half : Half) → IsHalf half → (s : machine.State) (c : Command) (e : Entry) (s' : machine.State) → IsInRange c
    → Step half s e.actor c e.reply (used_by e) s' → IsEveryMaps half s e.actor c e.reply (used_by e)
entry_exact half sized s (command.Get v kind key) e s' range step =
    get_exact half sized s e.actor v kind key e.reply (used_by e) s' range (entry_nodes half kind range.3 e) step
entry_exact half sized s (command.Page v kind key n) e s' range step =
    page_exact half s e.actor v kind key n e.reply (used_by e) s' step
entry_exact half sized s c e s' range step = tt

pub reads_exact : (half : Half) → IsHalf half → (lines : List Line) → ((l : Line) → Contains lines l → IsInRange l.command)
    → (s : machine.State) (entries : List Entry) (s' : machine.State) (run : Run half lines s entries s')
    → AreEveryMaps half lines s entries s' run
reads_exact half sized lines range s [] s' run = tt
reads_exact half sized lines range s (e ∷ rest) s' run =
    let line : Line = run.1.line in (
      entry_exact half sized s line.command e run.0 (range line (line_at lines run.1.place line run.1.stands)) run.1.step,
      reads_exact half sized lines range run.0 rest s' run.2,
    )
