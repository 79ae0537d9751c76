-- How a line grows, piece by piece.
use Rattle.std.proofs.Common.{◌≡◌, ℕ, ◌<◌, ◌≤◌, Bool, true, false, List, [], ◌∷◌, ◌++◌, length, drop}
use Rattle.std.proofs.Common.{Option, None, Some, refl, sym, ap, ◌∙◌, subst, append_assoc}
use Rattle.std.proofs.lemmas.List.{append-nil, take-append-drop}
use Rattle.std.specs.Option.{IfSome}
use Rattle.line_feed.specs.Lines.{IsOneLine}
use Rattle.line_feed.specs.Feeding.{TakesLine, TakesRest, TakesFront, CutsLine, TakesAll, Cuts, Fills}
use Rattle.line_feed.proofs.shared.Newlines.{one_join}

-- of the input, the line so far was taken; then comes what waits, and what the source has left
pub record Goes (start bytes line now : List ℕ) (left : Option (List ℕ)) : Type 0 where
  pub rest : List ℕ
  pub left_is : left ≡ Some rest
  pub text_is : start ++ bytes ≡ line ++ (now ++ rest)
  pub one : IsOneLine line

pub goes_start : (input : Option (List ℕ)) (start : List ℕ) → IfSome input (λ bytes. Goes start bytes [] start input)
goes_start None start = tt
goes_start (Some bytes) start = record { rest = bytes; left_is = refl; text_is = refl; one = tt }

pub goes_on : (input mid new : Option (List ℕ)) (start line was all none now : List ℕ) (n : ℕ)
    → IfSome input (λ bytes. Goes start bytes line was mid) → TakesAll was line all none
    → IfSome mid (λ left. Fills n left now new) → IfSome input (λ bytes. Goes start bytes all now new)
goes_on None mid new start line was all none now n goes takes fills = tt
goes_on (Some bytes) mid new start line was all none now n goes takes fills =
    let filled : Fills n goes.rest now new = subst (λ (m : Option (List ℕ)). IfSome m (λ left. Fills n left now new)) goes.left_is fills in
    record {
      rest = drop n goes.rest;
      left_is = filled.rest_is;
      text_is = goes.text_is ∙ sym (append_assoc line was goes.rest) ∙ ap (λ (l : List ℕ). l ++ goes.rest) (sym takes.line_is)
          ∙ ap (λ (r : List ℕ). all ++ r) (sym (take-append-drop n goes.rest) ∙ ap (λ (w : List ℕ). w ++ drop n goes.rest)
          (sym filled.now_is));
      one = subst IsOneLine (sym takes.line_is) (one_join line was goes.one takes.one);
    }

pub goes_line : (input mid : Option (List ℕ)) (start line was all now : List ℕ) (most : ℕ)
    → IfSome input (λ bytes. Goes start bytes line was mid) → CutsLine was line all now → length all ≤ most
    → IfSome input (λ bytes. TakesLine most (start ++ bytes) all now mid)
goes_line None mid start line was all now most goes cuts short = tt
goes_line (Some bytes) mid start line was all now most goes cuts short = record {
  rest = goes.rest;
  left_is = goes.left_is;
  text_is = goes.text_is ∙ ap (λ (w : List ℕ). line ++ (w ++ goes.rest)) cuts.was_is
      ∙ ap (λ (w : List ℕ). line ++ w) (append_assoc cuts.more (10 ∷ now) goes.rest)
      ∙ sym (append_assoc line cuts.more (10 ∷ (now ++ goes.rest))) ∙ ap (λ (l : List ℕ). l ++ 10 ∷ (now ++ goes.rest)) (sym cuts.line_is);
  one = subst IsOneLine (sym cuts.line_is) (one_join line cuts.more goes.one cuts.one);
  short = short;
}

pub goes_end : (input mid new : Option (List ℕ)) (start line was all none now : List ℕ) (n most : ℕ)
    → IfSome input (λ bytes. Goes start bytes line was mid) → TakesAll was line all none → length all ≤ most
    → n ≡ 0 → IfSome mid (λ left. Fills n left now new)
    → IfSome input (λ bytes. TakesRest most (start ++ bytes) all)
goes_end None mid new start line was all none now n most goes takes short last fills = tt
goes_end (Some bytes) mid new start line was all none now n most goes takes short last fills =
    let filled : Fills n goes.rest now new = subst (λ (m : Option (List ℕ)). IfSome m (λ left. Fills n left now new)) goes.left_is fills in
    record {
      text_is = goes.text_is ∙ ap (λ (r : List ℕ). line ++ (was ++ r)) (filled.ended last) ∙ ap (λ (r : List ℕ). line ++ r) (append-nil was)
          ∙ sym takes.line_is;
      one = subst IsOneLine (sym takes.line_is) (one_join line was goes.one takes.one);
      short = short;
    }

pub goes_long : (input mid : Option (List ℕ)) (start line was all now : List ℕ) (most : ℕ) (whole : Bool)
    → IfSome input (λ bytes. Goes start bytes line was mid) → Cuts whole was line all now → most < length all
    → IfSome input (λ bytes. TakesFront most (start ++ bytes) all)
goes_long None mid start line was all now most whole goes cuts long = tt
goes_long (Some bytes) mid start line was all now most true goes cuts long = record {
  rest = 10 ∷ (now ++ goes.rest);
  text_is = goes.text_is ∙ ap (λ (w : List ℕ). line ++ (w ++ goes.rest)) cuts.was_is
      ∙ ap (λ (w : List ℕ). line ++ w) (append_assoc cuts.more (10 ∷ now) goes.rest)
      ∙ sym (append_assoc line cuts.more (10 ∷ (now ++ goes.rest))) ∙ ap (λ (l : List ℕ). l ++ 10 ∷ (now ++ goes.rest)) (sym cuts.line_is);
  one = subst IsOneLine (sym cuts.line_is) (one_join line cuts.more goes.one cuts.one);
  long = long;
}
goes_long (Some bytes) mid start line was all now most false goes takes long = record {
  rest = goes.rest;
  text_is = goes.text_is ∙ sym (append_assoc line was goes.rest) ∙ ap (λ (l : List ℕ). l ++ goes.rest) (sym takes.line_is);
  one = subst IsOneLine (sym takes.line_is) (one_join line was goes.one takes.one);
  long = long;
}
