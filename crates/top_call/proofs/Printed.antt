-- How printing goes on.
use Rattle.std.proofs.Common.{◌≡◌, ℕ, ◌+◌, ◌<◌, ◌≤◌, List, [], ◌∷◌, ◌++◌, length, take, drop, get_or, sym, ◌∙◌, ap, subst, Bool, false}
use Rattle.std.proofs.Common.{take_all}
use Rattle.std.specs.Prelude.{flat_map, Result, Ok, Err, OnErr}
use Rattle.std.proofs.lemmas.List.{append-nil, take-append-drop, take_more}
use Rattle.std.proofs.lemmas.List.Concat.{flat_map-append}
use mathlib.Core.List.{IsPrefix}
use Rattle.ledger_machine.specs.declared.commands.Line.{Line}
use Rattle.ledger_machine.specs.declared.journal.Entry.{Entry}
use Rattle.top_call.specs.Output.{entry_line, entry_lines}

-- the text of the first entries
abbrev pub printed : List Line → List Entry → ℕ → List ℕ
printed lines journal i = flat_map (entry_line lines) (take i journal)

module _ (lines : List Line) (journal : List Entry) where
  -- with one entry more
  pub printed_more : (i : ℕ) (e : Entry) → i < length journal → e ≡ get_or journal i e
      → printed lines journal i ++ entry_line lines e ≡ printed lines journal (i + 1)
  printed_more i e lt at =
      sym (ap (flat_map (entry_line lines)) (take_more journal i e lt ∙ ap (λ (x : Entry). take i journal ++ x ∷ []) (sym at))
      ∙ flat_map-append (entry_line lines) (take i journal) (e ∷ [])
      ∙ ap (λ (w : List ℕ). printed lines journal i ++ w) (append-nil (entry_line lines e)))

  -- the first entries' text is a front of all of them
  pub printed_front : (i : ℕ) → IsPrefix (printed lines journal i) (flat_map (entry_line lines) journal)
  printed_front i = (
    flat_map (entry_line lines) (drop i journal),
    sym (flat_map-append (entry_line lines) (take i journal) (drop i journal))
        ∙ ap (flat_map (entry_line lines)) (take-append-drop i journal),
  )

  -- an entry's text behind those of the entries before it
  pub printed_with : (i : ℕ) (e : Entry) → i < length journal → e ≡ get_or journal i e
      → IsPrefix (printed lines journal i ++ entry_line lines e) (flat_map (entry_line lines) journal)
  printed_with i e lt at =
      let P : List ℕ → Type 0 = λ w. IsPrefix w (flat_map (entry_line lines) journal) in
      subst P (sym (printed_more i e lt at)) (printed_front (i + 1))

  -- all of them
  pub printed_all : (i : ℕ) → length journal ≤ i → printed lines journal i ≡ flat_map (entry_line lines) journal
  printed_all i le = ap (flat_map (entry_line lines)) (take_all i journal le)

  -- what isn't quiet has these lines
  pub not_quiet : (quiet : Bool) → quiet ≡ false → flat_map (entry_line lines) journal ≡ entry_lines quiet lines journal
  not_quiet quiet is = sym (ap (λ (q : Bool). entry_lines q lines journal) is)

pub prefix_self : (a text : List ℕ) → a ≡ text → IsPrefix a text
prefix_self a text is = ([], append-nil a ∙ is)

pub same_item : (es journal : List Entry) (i : ℕ) (e : Entry) → es ≡ journal → e ≡ get_or es i e → e ≡ get_or journal i e
same_item es journal i e same at = at ∙ ap (λ (w : List Entry). get_or w i e) same

-- a fact that holds at either result
pub on_err : {X E : Type 0} (r : Result X E) {P : Type 0} → P → OnErr r P
on_err (Ok x) p = tt
on_err (Err e) p = p
