-- Command lines, from their command and their options.
use Rattle.std.specs.Prelude.{◌≡◌, ℕ, List, ◌∷◌, Result, Ok, Err, MatchResult, IfOk, Option, Some, codes, slice_index}
use Rattle.std.proofs.Common.{sym, ap, ◌∙◌, subst, arith}
use Rattle.ledger_spec.specs.Bytes.{Bytes}
use Rattle.run_words.specs.declared.options.Options.{Options}
use Rattle.run_words.specs.declared.options.Usage.{Usage}
use Rattle.run_words.specs.declared.words.Words.{Words}
use Rattle.run_words.specs.Options.{no_options, Gives}
use Rattle.run_words.specs.declared.words.Words.TheVariants.{Replay, Swarm, Stop}
use Rattle.swarm_gen.specs.declared.plan.Plan.{Plan}
use Rattle.run_words.specs.Words.{command_word, MeansSwarm, Means, Says}

-- the options behind the command give o, and o alone
abbrev pub GivesOnly : List Bytes → Options → Type 0
GivesOnly rest o = Gives rest no_options o × ((v : Options) → Gives rest no_options v → v ≡ o)

-- what the options mean is what the words say
pub command_says : (all rest : List Bytes) (command text : Bytes) (o : Options) (r : Result Words Usage) → all ≡ command ∷ rest
    → command ≡ text → GivesOnly rest o
    → MatchResult r (λ w. (command_word w ≡ text) × Means o w) (λ _. (w : Words) → command_word w ≡ text → Means o w → ⊥)
    → MatchResult r (Says all) (λ _. (w : Words) → Says all w → ⊥)
command_says all rest command text o (Ok w) e is g h = (rest, o, e ∙ (λ i. (is ∙ sym h.0) i ∷ rest), g.0, h.1)
command_says all rest command text o (Err u) e is g h = λ w says.
    let e2 : command ∷ rest ≡ command_word w ∷ says.0 = sym e ∙ says.2 in
    let same : says.0 ≡ rest = cc in
    let word : command_word w ≡ text = cc in
    let one : says.1 ≡ o = g.1 says.1 (subst (λ (x : List Bytes). Gives x no_options says.1) same says.3) in
    h w word (subst (λ (x : Options). Means x w) one says.4)

pub no_options_say : (all rest : List Bytes) (command : Bytes) → all ≡ command ∷ rest → ((v : Options) → Gives rest no_options v → ⊥)
    → (w : Words) → Says all w → ⊥
no_options_say all rest command e none w says =
    let e2 : command ∷ rest ≡ command_word w ∷ says.0 = sym e ∙ says.2 in
    let same : says.0 ≡ rest = cc in
    none says.1 (subst (λ (x : List Bytes). Gives x no_options says.1) same says.3)

number_of_some : (a b : ℕ) (x : Option ℕ) → x ≡ Some a → x ≡ Some b → a ≡ b
number_of_some a b x e f = let g : Some a ≡ Some b = sym e ∙ f in cc

one_plan : (o : Options) (p q : Plan) → MeansSwarm o p → MeansSwarm o q → p ≡ q
one_plan o p q m n = λ i. record {
  number = number_of_some p.number q.number o.number m.number n.number i;
  ledgers = number_of_some p.ledgers q.ledgers o.ledgers m.ledgers n.ledgers i;
  items = number_of_some p.items q.items o.items m.items n.items i;
  liars = number_of_some p.liars q.liars o.liars m.liars n.liars i;
  actors = number_of_some p.actors q.actors o.actors m.actors n.actors i;
  interval = (m.interval.0 ∙ sym n.interval.0) i;
}

-- two commands whose words begin otherwise
other_word : {A : Type 0} (a b : Bytes) → a ≡ b → (slice_index a 1 ≡ slice_index b 1 → ⊥) → A
other_word a b e differ = absurd (differ (ap (λ (xs : Bytes). slice_index xs 1) e))

other_command : {A : Type 0} → codes "replay" ≡ codes "swarm" → A
other_command e = other_word (codes "replay") (codes "swarm") e (λ (f : 101 ≡ 119). omega arith)

no_stop : {A : Type 0} → codes "replay" ≡ codes "stop" → A
no_stop e = other_word (codes "replay") (codes "stop") e (λ (f : 101 ≡ 116). omega arith)

no_swarm : {A : Type 0} → codes "stop" ≡ codes "swarm" → A
no_swarm e = other_word (codes "stop") (codes "swarm") e (λ (f : 116 ≡ 119). omega arith)

-- options mean one thing
means_one : (o : Options) (w v : Words) → command_word w ≡ command_word v → Means o w → Means o v → w ≡ v
means_one o (Replay n q d) (Replay n2 q2 d2) e m k = λ i. Replay ((m.0.interval.0 ∙ sym k.0.interval.0) i) ((m.1 ∙ sym k.1) i)
    ((m.2 ∙ sym k.2) i)
means_one o (Replay n q d) (Swarm p q2 d2) e m k = other_command e
means_one o (Replay n q d) (Stop at pick n2 q2) e m k = no_stop e
means_one o (Swarm p q d) (Replay n q2 d2) e m k = other_command (sym e)
means_one o (Swarm p q d) (Swarm p2 q2 d2) e m k = λ i. Swarm (one_plan o p p2 m.0 k.0 i) ((m.1 ∙ sym k.1) i) ((m.2 ∙ sym k.2) i)
means_one o (Swarm p q d) (Stop at pick n q2) e m k = no_swarm (sym e)
means_one o (Stop at pick n q) (Replay n2 q2 d) e m k = no_stop (sym e)
means_one o (Stop at pick n q) (Swarm p q2 d) e m k = no_swarm e
means_one o (Stop at pick n q) (Stop at2 pick2 n2 q2) e m k =
    λ i. Stop (number_of_some at at2 o.at m.0.at k.0.at i) ((m.0.pick.0 ∙ sym k.0.pick.0) i) ((m.0.interval.0 ∙ sym k.0.interval.0) i)
    ((m.1 ∙ sym k.1) i)

-- the words say nothing else
pub command_only : (all rest : List Bytes) (command text : Bytes) (o : Options) (r : Result Words Usage) → all ≡ command ∷ rest
    → command ≡ text → GivesOnly rest o
    → MatchResult r (λ w. (command_word w ≡ text) × Means o w) (λ _. (w : Words) → command_word w ≡ text → Means o w → ⊥)
    → IfOk r (λ w. (v : Words) → Says all v → v ≡ w)
command_only all rest command text o (Ok w) e is g h = λ v says.
    let e2 : command ∷ rest ≡ command_word v ∷ says.0 = sym e ∙ says.2 in
    let same : says.0 ≡ rest = cc in
    let word : command_word v ≡ text = cc in
    let one : says.1 ≡ o = g.1 says.1 (subst (λ (x : List Bytes). Gives x no_options says.1) same says.3) in
    means_one o v w (word ∙ sym h.0) (subst (λ (x : Options). Means x v) one says.4) h.1
command_only all rest command text o (Err u) e is g h = tt
