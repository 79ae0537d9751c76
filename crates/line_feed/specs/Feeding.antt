-- What one line takes of the input.
use Rattle.std.specs.Prelude.{◌≡◌, ℕ, ◌<◌, ◌≤◌, ◌-◌, Bool, true, false, List, [], ◌∷◌, ◌++◌, length, take, drop, Option, Some}
use Rattle.line_feed.specs.Lines.{IsOneLine}
use Rattle.line_feed.specs.declared.feed.Fed.{Fed}
use Rattle.line_feed.specs.declared.feed.Fed.TheVariants.{Line, End, TooLong}
use Rattle.line_feed.specs.declared.feed.Feed.{Feed}

-- what was read and isn't taken yet
abbrev pub waiting : Feed → List ℕ
waiting f = take (f.end - f.at) (drop f.at f.piece.items)

-- the next line is taken, with its newline
pub record TakesLine (most : ℕ) (text line behind : List ℕ) (left : Option (List ℕ)) : Type 0 where
  pub rest : List ℕ
  pub left_is : left ≡ Some rest
  pub text_is : text ≡ line ++ 10 ∷ (behind ++ rest)
  pub one : IsOneLine line
  pub short : length line ≤ most

-- all that is left is taken, which no newline ends
pub record TakesRest (most : ℕ) (text line : List ℕ) : Type 0 where
  pub text_is : text ≡ line
  pub one : IsOneLine line
  pub short : length line ≤ most

-- the front of a line that is too long
pub record TakesFront (most : ℕ) (text line : List ℕ) : Type 0 where
  pub rest : List ℕ
  pub text_is : text ≡ line ++ rest
  pub one : IsOneLine line
  pub long : most < length line

-- by what there was; `behind` waits then
abbrev pub Feeds : ℕ → Fed → List ℕ → List ℕ → List ℕ → Option (List ℕ) → Type 0
Feeds most Line text line behind left = TakesLine most text line behind left
Feeds most End text line behind left = TakesRest most text line
Feeds most TooLong text line behind left = TakesFront most text line

-- what waits is taken up to its newline and with it, where there is one, and else all of it
pub record CutsLine (was line new_line now : List ℕ) : Type 0 where
  pub more : List ℕ
  pub was_is : was ≡ more ++ 10 ∷ now
  pub line_is : new_line ≡ line ++ more
  pub one : IsOneLine more

pub record TakesAll (was line new_line now : List ℕ) : Type 0 where
  pub now_is : now ≡ []
  pub line_is : new_line ≡ line ++ was
  pub one : IsOneLine was

abbrev pub Cuts : Bool → List ℕ → List ℕ → List ℕ → List ℕ → Type 0
Cuts true was line new_line now = CutsLine was line new_line now
Cuts false was line new_line now = TakesAll was line new_line now

-- n bytes more wait, and none only at the end of the input
pub record Fills (n : ℕ) (left now : List ℕ) (rest : Option (List ℕ)) : Type 0 where
  pub now_is : now ≡ take n left
  pub rest_is : rest ≡ Some (drop n left)
  pub few : n ≤ length left
  pub ended : n ≡ 0 → left ≡ []
