-- Places of a lent room: four numbers at each, and steps that go round.
use Rattle.std.specs.Prelude.{ℕ, ◌+◌, ◌-◌, ◌*◌, List, ltb, get_or, set}
use Rattle.choice.specs.Choice.{pick}

-- what f makes of the four numbers at place i
abbrev pub four_at : {A : Type 0} → (ℕ → ℕ → ℕ → ℕ → A) → List ℕ → ℕ → A
four_at f l i = f (get_or l (4 * i) 0) (get_or l (4 * i + 1) 0) (get_or l (4 * i + 2) 0) (get_or l (4 * i + 3) 0)

-- the room with four numbers put at place i
abbrev pub put_four : List ℕ → ℕ → ℕ → ℕ → ℕ → ℕ → List ℕ
put_four l i a b c d = set (set (set (set l (4 * i) a) (4 * i + 1) b) (4 * i + 2) c) (4 * i + 3) d

-- n places on from i, of c
abbrev pub onward : ℕ → ℕ → ℕ → ℕ
onward c i n = pick (ltb (i + n) c) (i + n) (i + n - c)

-- n places back from i, of c
abbrev pub back : ℕ → ℕ → ℕ → ℕ
back c i n = pick (ltb i n) (i + c - n) (i - n)
