-- Lines that are added one after another.
use Rattle.std.specs.Prelude.{◌≡◌, ℕ, suc, ◌+◌, ◌<◌, Some, if◌then◌else◌, List, [], ◌∷◌, ◌++◌, length, map, take, refl}
use Rattle.std.proofs.Common.{sym, ap, ◌∙◌, append_assoc, append-nil, arith, length-append, subst, get_or}
use Rattle.std.specs.List.{range_with_len}
use Rattle.std.proofs.lemmas.List.{map-append, take_more}
use Rattle.ledger_spec.specs.Bytes.{Hash}
use Rattle.map_changes.proofs.shared.Walking.{range_more}
use Rattle.swarm_gen.specs.declared.plan.Plan.{Plan}
use Rattle.swarm_gen.specs.declared.lines.Sent.{Sent}
use Rattle.ledger_machine.specs.declared.commands.Command.{Command}
use Rattle.ledger_machine.specs.declared.commands.Line.{Line}
use Rattle.swarm_gen.specs.Script.{Said, Ledger, numbered, says, lines_for, lines_for_all, get_line, opening_of, commands_of}
use Rattle.swarm_gen.specs.Script.{acquirer, acquired, reader_lines, rotation_lines, ledger_lines, is_turn, next_waits}
use Rattle.ledger_machine.specs.declared.commands.Command.TheVariants as command
use Rattle.swarm_gen.specs.Adding.{Adds}

pub numbered-append : (n : ℕ) (a b : List Said) → numbered n (a ++ b) ≡ numbered n a ++ numbered (n + length a) b
numbered-append n [] b = let e : n ≡ n + 0 = omega arith in ap (λ m. numbered m b) e
numbered-append n (s ∷ a) b =
    let e : n + 1 + length a ≡ n + suc (length a) = omega arith in
    ap (λ (x : List Line). record { number = n; actor = s.actor; after = s.after; command = s.command } ∷ x)
    (numbered-append (n + 1) a b ∙ ap (λ m. numbered (n + 1) a ++ numbered m b) e)

pub length-numbered : (n : ℕ) (a : List Said) → length (numbered n a) ≡ length a
length-numbered n [] = refl
length-numbered n (s ∷ a) = ap suc (length-numbered (n + 1) a)

-- where nothing was added
pub adds_none : (a : List Line) → Adds a a []
adds_none a = record { lines = sym (append-nil a) }

-- how many there are after lines were added
pub adds_length : (a b : List Line) (s : List Said) → Adds a b s → length b ≡ length a + length s
adds_length a b s e = ap length e.lines ∙ length-append a (numbered (length a + 1) s)
    ∙ ap (λ m. length a + m) (length-numbered (length a + 1) s)

-- lines, and then others
pub adds_both : (a b c : List Line) (s t : List Said) → Adds a b s → Adds b c t → Adds a c (s ++ t)
adds_both a b c s t e f =
    let n : length b + 1 ≡ length a + 1 + length s = omega (arith, adds_length a b s e) in
    record {
      lines = f.lines ∙ ap (λ (x : List Line). x ++ numbered (length b + 1) t) e.lines
          ∙ append_assoc a (numbered (length a + 1) s) (numbered (length b + 1) t)
          ∙ ap (λ (m : ℕ). a ++ (numbered (length a + 1) s ++ numbered m t)) n
          ∙ ap (λ (x : List Line). a ++ x) (sym (numbered-append (length a + 1) s t));
    }

-- the same, where the lines in all have another name
pub adds_as : (a b c : List Line) (s t all : List Said) → s ++ t ≡ all → Adds a b s → Adds b c t → Adds a c all
adds_as a b c s t all is e f = subst (λ (x : List Said). Adds a c x) is (adds_both a b c s t e f)

-- one element more, by a function of the number
pub mapped_more : {X : Type 0} (f : ℕ → X) (n : ℕ) → map f (range_with_len 0 n) ++ f n ∷ [] ≡ map f (range_with_len 0 (n + 1))
mapped_more f n =
    let e : 0 + n ≡ n = omega arith in
    ap (λ (x : ℕ). map f (range_with_len 0 n) ++ f x ∷ []) (sym e) ∙ sym (map-append f (range_with_len 0 n) ((0 + n) ∷ []))
    ∙ ap (map f) (range_more 0 n)

pub mapped_twice : {X Y : Type 0} (g : X → Y) (f : ℕ → X) (n : ℕ)
    → map g (map f (range_with_len 0 n)) ++ g (f n) ∷ [] ≡ map g (map f (range_with_len 0 (n + 1)))
mapped_twice g f n = sym (map-append g (map f (range_with_len 0 n)) (f n ∷ [])) ∙ ap (map g) (mapped_more f n)

-- the lines for nodes, and those for one node more
pub nodes_more : (plan : Plan) (t : Hash) (n : ℕ) (nodes : List Sent) (s : Sent)
    → lines_for_all plan t n nodes ++ lines_for plan t (n + length nodes) s ≡ lines_for_all plan t n (nodes ++ s ∷ [])
nodes_more plan t n [] s = let e : n + 0 ≡ n = omega arith in ap (λ m. lines_for plan t m s) e ∙ sym (append-nil (lines_for plan t n s))
nodes_more plan t n (x ∷ nodes) s =
    let e : n + suc (length nodes) ≡ n + 1 + length nodes = omega arith in
    append_assoc (lines_for plan t n x) (lines_for_all plan t (n + 1) nodes) (lines_for plan t (n + suc (length nodes)) s)
    ∙ ap (λ (y : List Command). lines_for plan t n x ++ y) (ap (λ m. lines_for_all plan t (n + 1) nodes ++ lines_for plan t m s) e
    ∙ nodes_more plan t (n + 1) nodes s)

pub said_nodes_more : (actor : ℕ) (plan : Plan) (t : Hash) (n m : ℕ) (nodes : List Sent) (s : Sent) → m ≡ n + length nodes
    → map (says actor) (lines_for_all plan t n nodes) ++ map (says actor) (lines_for plan t m s)
    ≡ map (says actor) (lines_for_all plan t n (nodes ++ s ∷ []))
said_nodes_more actor plan t n m nodes s e =
    sym (map-append (says actor) (lines_for_all plan t n nodes) (lines_for plan t m s))
    ∙ ap (map (says actor)) (ap (λ x. lines_for_all plan t n nodes ++ lines_for plan t x s) e ∙ nodes_more plan t n nodes s)

-- the lines for keys, and that for one key more
pub gets_more : (keys : List Hash) (i : ℕ) (key : Hash) → i < length keys → key ≡ get_or keys i key
    → map get_line (take i keys) ++ get_line key ∷ [] ≡ map get_line (take (i + 1) keys)
gets_more keys i key lt e =
    sym (map-append get_line (take i keys) (key ∷ [])) ∙ ap (λ (x : Hash). map get_line (take i keys ++ x ∷ [])) e
    ∙ ap (map get_line) (sym (take_more keys i key lt))

-- the lines of an opening, one part after another
pub opening_is : (actor : ℕ) (l : Ledger) (a b c d e : List Line)
    → Adds a b (says actor (command.Want l.hash l.seq) ∷ []) → Adds b c
    (map (says actor) (map (λ p. command.Peer p l.hash) (range_with_len 0 8)))
    → Adds c d (says actor (command.Check l.hash) ∷ []) → Adds d e
    (says actor (command.Base 7 l.hash l.header (Some l.state_root) (Some l.tx_root)) ∷ [])
    → Adds a e (map (says actor) (opening_of l))
opening_is actor l a b c d e want peers check base =
    adds_both a c e _ _ (adds_both a b c _ _ want peers) (adds_both c d e _ _ check base)

-- the lines of an acquirer, one part after another
pub acquired_is : (plan : Plan) (l : Ledger) (waits : ℕ) (a b c d e f : List Line)
    → Adds a b (map (says (acquirer plan l.seq)) (opening_of l))
    → Adds b c (map (says (acquirer plan l.seq)) (lines_for_all plan l.hash 0 l.state_nodes))
    → Adds c d (says (acquirer plan l.seq) (command.Check l.hash) ∷ [])
    → Adds d e (map (says (acquirer plan l.seq)) (lines_for_all plan l.hash (length l.state_nodes) l.tx_nodes))
    → Adds e f (record { actor = acquirer plan l.seq; after = waits; command = command.Check l.hash } ∷ [])
    → Adds a f (acquired plan l waits)
acquired_is plan l waits a b c d e f opening nodes check txs final =
    let say : Command → Said = says (acquirer plan l.seq) in
    let ns : List Command = lines_for_all plan l.hash 0 l.state_nodes in
    let ts : List Command = lines_for_all plan l.hash (length l.state_nodes) l.tx_nodes in
    let is : (map say (opening_of l) ++ map say ns) ++ (say (command.Check l.hash) ∷ map say ts) ≡ map say (commands_of plan l) =
    ap (λ (x : List Said). x ++ (say (command.Check l.hash) ∷ map say ts)) (sym (map-append say (opening_of l) ns))
    ∙ sym (map-append say (opening_of l ++ ns) (command.Check l.hash ∷ ts)) in
    adds_both a e f (map say (commands_of plan l)) _ (adds_as a c e (map say (opening_of l) ++ map say ns)
    (say (command.Check l.hash) ∷ map say ts) (map say (commands_of plan l)) is (adds_both a b c _ _ opening nodes)
    (adds_both c d e _ _ check txs)) final

-- the number of the last line added
pub last_is : (a b c : List Line) (s : List Said) (x : Said) (n : ℕ) → Adds a c s → Adds b c (x ∷ []) → n ≡ length b + 1
    → n ≡ length a + length s
last_is a b c s x n all one e = omega (arith, e, adds_length a c s all, adds_length b c (x ∷ []) one)

-- the same, where the actor and the number of state nodes have other names
pub acquired_as : (plan : Plan) (l : Ledger) (waits actor count : ℕ) {a b c d e f : List Line} → actor ≡ acquirer plan l.seq
    → count ≡ length l.state_nodes
    → Adds a b (map (says actor) (opening_of l)) → Adds b c (map (says actor) (lines_for_all plan l.hash 0 l.state_nodes))
    → Adds c d (says actor (command.Check l.hash) ∷ []) → Adds d e (map (says actor) (lines_for_all plan l.hash count l.tx_nodes))
    → Adds e f (record { actor = actor; after = waits; command = command.Check l.hash } ∷ [])
    → Adds a f (acquired plan l waits)
acquired_as plan l waits actor count {a} {b} {c} {d} {e} {f} same many opening nodes check txs final =
    acquired_is plan l waits a b c d e f
    (subst (λ (x : ℕ). Adds a b (map (says x) (opening_of l))) same opening)
    (subst (λ (x : ℕ). Adds b c (map (says x) (lines_for_all plan l.hash 0 l.state_nodes))) same nodes)
    (subst (λ (x : ℕ). Adds c d (says x (command.Check l.hash) ∷ [])) same check)
    (subst (λ (x : ℕ). Adds d e (map (says x) (lines_for_all plan l.hash (length l.state_nodes) l.tx_nodes))) same
    (subst (λ (n : ℕ). Adds d e (map (says actor) (lines_for_all plan l.hash n l.tx_nodes))) many txs))
    (subst (λ (x : ℕ). Adds e f (record { actor = x; after = waits; command = command.Check l.hash } ∷ [])) same final)

pub acquired_last : (plan : Plan) (l : Ledger) (waits actor count n : ℕ) {a b c d e f : List Line} → actor ≡ acquirer plan l.seq
    → count ≡ length l.state_nodes
    → Adds a b (map (says actor) (opening_of l)) → Adds b c (map (says actor) (lines_for_all plan l.hash 0 l.state_nodes))
    → Adds c d (says actor (command.Check l.hash) ∷ []) → Adds d e (map (says actor) (lines_for_all plan l.hash count l.tx_nodes))
    → Adds e f (record { actor = actor; after = waits; command = command.Check l.hash } ∷ []) → n ≡ length e + 1
    → n ≡ length a + length (acquired plan l waits)
acquired_last plan l waits actor count n {a} {b} {c} {d} {e} {f} same many opening nodes check txs final is =
    last_is a e f (acquired plan l waits) (record { actor = actor; after = waits; command = command.Check l.hash }) n
    (acquired_as plan l waits actor count {a = a} {b = b} {c = c} {d = d} {e = e} {f = f} same many opening nodes check txs final) final is

-- the lines of the reader, one part after another
pub reader_is : (keys : List Hash) (t : Hash) (last : ℕ) (a b c d : List Line)
    → Adds a b (record { actor = 1; after = last; command = command.View 1 t } ∷ []) → Adds b c (map get_line keys)
    → Adds c d (says 1 (command.Unview 1) ∷ [])
    → Adds a d (reader_lines keys t last)
reader_is keys t last a b c d view gets end = adds_both a c d _ _ (adds_both a b c _ _ view gets) end

-- the lines of a ledger, one part after another
pub ledger_is : (plan : Plan) (keys : List Hash) (l : Ledger) (waits last : ℕ) (a b c d : List Line)
    → last ≡ length a + length (acquired plan l waits)
    → Adds a b (acquired plan l waits) → Adds b c (reader_lines keys l.hash last) → Adds c d (rotation_lines plan l.seq last)
    → Adds a d (ledger_lines plan keys l (length a) waits)
ledger_is plan keys l waits last a b c d e own read turn =
    let said : List Said = acquired plan l waits in
    subst (λ (n : ℕ). Adds a d (said ++ reader_lines keys l.hash n ++ rotation_lines plan l.seq n)) e
    (adds_both a c d _ _ (adds_both a b c _ _ own read) turn)

-- the line for which the next ledger waits
pub next_is : (plan : Plan) (keys : List Hash) (l : Ledger) (waits last n : ℕ) (a b c : List Line)
    → last ≡ length a + length (acquired plan l waits)
    → Adds a b (acquired plan l waits) → Adds b c (reader_lines keys l.hash last) → n ≡ (if is_turn plan l.seq then length c + 1 else last)
    → n ≡ next_waits plan keys l (length a) waits
next_is plan keys l waits last n a b c e own read is =
    let long : length c ≡ last + length (reader_lines keys l.hash last) = omega
    (arith, e, adds_length a b (acquired plan l waits) own, adds_length b c (reader_lines keys l.hash last) read) in
    is ∙ ap (λ m. if is_turn plan l.seq then m + 1 else last) long
    ∙ ap (λ (m : ℕ). if is_turn plan l.seq then m + length (reader_lines keys l.hash m) + 1 else m) e

pub mapped_more_from : {X : Type 0} (f : ℕ → X) (n : ℕ) → map f (range_with_len 1 n) ++ f (n + 1) ∷ [] ≡ map f (range_with_len 1 (n + 1))
mapped_more_from f n =
    let e : 1 + n ≡ n + 1 = omega arith in
    ap (λ (x : ℕ). map f (range_with_len 1 n) ++ f x ∷ []) (sym e) ∙ sym (map-append f (range_with_len 1 n) ((1 + n) ∷ []))
    ∙ ap (map f) (range_more 1 n)
