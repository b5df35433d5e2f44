-- A choice by a test.
use Rattle.std.specs.Prelude.{Bool, true, false}

-- `pick b x y` is x where b holds, else y
abbrev pub pick : {A : Type 0} → Bool → A → A → A
pick true x y = x
pick false x y = y
