-- What a path's answer proves.
use Rattle.std.proofs.Common.{◌≡◌, ⊎_elim, ℕ, ◌+◌, Bool, true, false, List, [], ◌∷◌, ◌++◌, length, nat_lt}
use Rattle.std.proofs.Common.{Option, None, Some, Result, Ok, Err, refl, sym, ap, ◌∙◌, subst, append_assoc}
use Rattle.std.specs.Prelude.{if◌then◌else◌}
use Rattle.std.proofs.lemmas.List.{append-nil}
use Rattle.std.proofs.lemmas.List.Elements.{Contains-append_cases}
use Rattle.hex.specs.Hex.{decode_of}
use Rattle.line_feed.specs.Lines.{cut}
use Rattle.ledger_spec.specs.declared.Kind.TheVariants.{State}
use Rattle.ledger_spec.specs.Bytes.{Bytes, Hash, Half, IsHalf}
use Rattle.ledger_spec.specs.Forms.{Held, inner, leaf, header, IsHeld, Form, form_of}
use Rattle.ledger_spec.specs.Findings.{held_of}
use Rattle.ledger_spec.specs.Reads.{Outcome, nothing, value, follow, IsKey, IsNode, AreNodes}
use Rattle.ledger_spec.proofs.shared.Readings.{holds}
use Rattle.tree_laws.proofs.shared.Joins.{in_nothing, in_one}
use Rattle.tree_laws.proofs.shared.PathLaw.{answers_or_shows}
use Rattle.audit_core.specs.declared.cause.Cause.{Cause}
use Rattle.audit_core.specs.declared.cause.Cause.TheVariants as causes
use Rattle.audit_core.specs.Said.{digits_of}
use Rattle.audit_core.specs.Runs.{unended, step, Goes, Says, joined}
use Rattle.audit_core.proofs.shared.Cuts.{cut_all}
use Rattle.audit_core.proofs.shared.Decoded.{digits_some}
use Rattle.path_audit.specs.declared.answer.PathAnswer.{PathAnswer}
use Rattle.path_audit.specs.declared.answer.PathAnswer.TheVariants.{Refused}
use Rattle.path_audit.specs.Paths.{path_most, node_held, node_of, behind, with_node, nodes_in, after_node, PathSays, Comes, Told}
use Rattle.path_audit.specs.Paths.{AreForms, Proves, PathProves}

-- a held node or leaf is a node
node_is : (half : Half) (n : Held) → IsHeld half n → IsNode half State n
node_is half (inner hashes) held = held
node_is half (leaf kind key bytes) held = λ same. held
node_is half (header bytes) held = tt

-- a line and its node more
each_push : (lines : List Bytes) (used : List Held) (line : Bytes) (n : Held) → AreForms lines used → decode_of line ≡ Ok (form_of n)
    → AreForms (lines ++ line ∷ []) (used ++ n ∷ [])
each_push [] [] line n each here = (here, tt)
each_push [] (m ∷ used) line n each here = absurd each
each_push (l ∷ lines) [] line n each here = absurd each
each_push (l ∷ lines) (m ∷ used) line n each here = (each.0, each_push lines used line n each.1 here)

module _ (half : Half) (is : IsHalf half) where
  -- the nodes of the lines so far
  record Known (lines : List Bytes) (used : List Held) : Type 0 where
    nodes : AreNodes half State used
    each : AreForms lines used

  -- what bytes hold is a node that has them as its form
  form_node : (form : Bytes) (n m : Held) → held_of half form ≡ Some n → n ≡ m → IsNode half State m × (form ≡ form_of m)
  form_node form n m held same =
      let there : Form half m form = holds half is.size m form (held ∙ ap Some same) in
      (node_is half m there.0, there.1)

  held_node : (form : Bytes) (o : Option Held) (n : Held) → held_of half form ≡ o → node_held o ≡ Ok n
      → IsNode half State n × (form ≡ form_of n)
  held_node form None n held taken = let e : Err causes.Form ≡ Ok n = taken in cc
  held_node form (Some (inner hashes)) n held taken =
      form_node form (inner hashes) n held (let e : Ok (inner hashes) ≡ Ok n = taken in cc)
  held_node form (Some (leaf kind key bytes)) n held taken =
      form_node form (leaf kind key bytes) n held (let e : Ok (leaf kind key bytes) ≡ Ok n = taken in cc)
  held_node form (Some (header bytes)) n held taken = let e : Err causes.Form ≡ Ok n = taken in cc

  line_node : (line : Bytes) (o : Option Bytes) (n : Held) → digits_of line ≡ o → node_of half o ≡ Ok n
      → IsNode half State n × (decode_of line ≡ Ok (form_of n))
  line_node line None n digits taken = let e : Err causes.Data ≡ Ok n = taken in cc
  line_node line (Some form) n digits taken =
      let node = held_node form (held_of half form) n refl taken in
      (node.0, digits_some line form digits ∙ ap Ok node.1)

  -- a node more
  one_more : (lines : List Bytes) (used : List Held) (line : Bytes) (n : Held) → Known lines used → IsNode half State n
      → decode_of line ≡ Ok (form_of n) → Known (lines ++ line ∷ []) (used ++ n ∷ [])
  one_more lines used line n known node form = record {
    nodes = λ m has. ⊎_elim (λ here. known.nodes m here) (λ last. subst (IsNode half State) (in_one n m last) node)
        (Contains-append_cases used (n ∷ []) m has);
    each = each_push lines used line n known.each form;
  }

  more_nodes : (lines : List Bytes) (used more : List Held) (line : Bytes) → Known lines used → with_node half used line ≡ Ok more
      → Known (lines ++ line ∷ []) more
  more_nodes lines used more line known taken = by (nat_lt 64 (length used)) taken
    where
      by_node : (r : Result Held Cause) → node_of half (digits_of line) ≡ r → behind used r ≡ Ok more → Known (lines ++ line ∷ []) more
      by_node (Err cause) node taken = let e : Err cause ≡ Ok more = taken in cc
      by_node (Ok n) node taken =
          let same : used ++ n ∷ [] ≡ more = (let e : Ok (used ++ n ∷ []) ≡ Ok more = taken in cc) in
          let here = line_node line (digits_of line) n refl node in
          subst (Known (lines ++ line ∷ [])) same (one_more lines used line n known here.0 here.1)

      by : (b : Bool) → (if b then Err causes.Extra else behind used (node_of half (digits_of line))) ≡ Ok more
          → Known (lines ++ line ∷ []) more
      by true taken = let e : Err causes.Extra ≡ Ok more = taken in cc
      by false taken = by_node (node_of half (digits_of line)) refl taken

  module _ (root key : Hash) (is_key : IsKey key) (bytes : Bytes) (answer : PathAnswer) (outcome : Outcome)
      (told : Told answer ≡ Some outcome) where
    not_refused : (n : ℕ) (cause : Cause) → answer ≡ Refused n cause → ⊥
    not_refused n cause refused = let e : None ≡ Some outcome = sym (ap Told refused) ∙ told in cc

    proves : (lines : List Bytes) (used : List Held) → Known lines used → bytes ≡ joined lines
        → follow half State root key used ≡ Some outcome → Proves half root key bytes outcome
    proves lines used known are leads = record {
      used = used;
      text = record { lines = lines; bytes_are = are; each = known.each };
      leads = leads;
      answers = answers_or_shows half is.size State root key used outcome is_key known.nodes leads;
    }

    end_proves : (lines : List Bytes) (used : List Held) (o : Option Outcome) → Known lines used → bytes ≡ joined lines
        → follow half State root key used ≡ o → PathSays o answer → Proves half root key bytes outcome
    end_proves lines used None known are leads says = let e : None ≡ Some outcome = sym (ap Told says) ∙ told in cc
    end_proves lines used (Some nothing) known are leads says = proves lines used known are (leads ∙ sym (ap Told says) ∙ told)
    end_proves lines used (Some (value found)) known are leads says = proves lines used known are (leads ∙ sym (ap Told says) ∙ told)

    -- from lines that were taken on
    says_proves : (n : ℕ) (before : List Bytes) (o : Option (List Held)) (lines : List Bytes) (rest : Bytes) → Known before (nodes_in o)
        → bytes ≡ joined (before ++ lines) ++ rest
        → Says Refused path_most (after_node half) (Comes half root key) n o lines rest answer → Proves half root key bytes outcome
    says_proves n before o [] (x ∷ rest) known are says = absurd (not_refused n (unended path_most (x ∷ rest)) says)
    says_proves n before o [] [] known are says =
        end_proves before (nodes_in o) (follow half State root key (nodes_in o)) known
        (are ∙ append-nil (joined (before ++ [])) ∙ ap joined (append-nil before)) refl says
    says_proves n before o (line ∷ lines) rest known are says =
        by (step path_most (after_node half) o line) refl
        (λ more knows goes. says_proves (n + 1) (before ++ line ∷ []) (Some more) lines rest knows
        (are ∙ ap (λ (ls : List Bytes). joined ls ++ rest) (sym (append_assoc before (line ∷ []) lines))) goes) says
      where
        taken_is : (more : List Held) (b : Bool) → (if b then Err causes.TooLong else after_node half o line) ≡ Ok more
            → with_node half (nodes_in o) line ≡ Ok more
        taken_is more true taken = let e : Err causes.TooLong ≡ Ok more = taken in cc
        taken_is more false taken = taken

        by : (r : Result (List Held) Cause) → step path_most (after_node half) o line ≡ r
            → ((more : List Held) → Known (before ++ line ∷ []) more
            → Says Refused path_most (after_node half) (Comes half root key) (n + 1) (Some more) lines rest answer
            → Proves half root key bytes outcome)
            → Goes Refused path_most (after_node half) (Comes half root key) n answer r
            (λ more. Says Refused path_most (after_node half) (Comes half root key) (n + 1) (Some more) lines rest answer)
            → Proves half root key bytes outcome
        by (Err cause) taken on goes = absurd (not_refused n cause goes)
        by (Ok more) taken on goes =
            on more (more_nodes before (nodes_in o) more line known (taken_is more (nat_lt path_most (length line)) taken)) goes

pub path_proves : PathProves
path_proves half is root key is_key bytes answer says outcome told =
    says_proves half is root key is_key bytes answer outcome told 1 [] None (cut bytes).0 (cut bytes).1
    (record { nodes = λ n has. absurd (in_nothing has); each = tt }) (sym (cut_all bytes)) says
