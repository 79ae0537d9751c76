-- A fact on a result's value, weakened.
use Rattle.std.proofs.Common.{Result, Ok, Err, IfOk}

pub ok_map : {A E : Type 0} (r : Result A E) (P Q : A → Type 0) → IfOk r P → ((x : A) → P x → Q x) → IfOk r Q
ok_map (Ok x) P Q h f = f x h
ok_map (Err e) P Q h f = tt
