-- The numbers are those that the forms are defined by. Assumes nothing.
use mathlib.Core.Path.{refl}
use Rattle.forms.specs.Numbers.{InNumbers}

pub in_numbers : InNumbers
in_numbers =
    record {
      none = λ answer stamp. refl;
      unready = λ answer stamp. refl;
      word = λ answer w stamp. refl;
      going = λ stamp turn position. refl;
      stopped = λ stamp turn position. refl;
      cycled = λ t r. refl;
      checked = λ s. refl;
      refused = refl;
      setup-read = λ s. refl;
      setup-refused = refl;
      lengths = λ due. refl;
      no_lengths = refl;
      idle = refl;
      read = λ a. refl;
      write = λ a w. refl;
      bad = refl;
      written = λ room. refl;
      out_of_range = λ room. refl;
      other_length = λ room. refl;
    }
