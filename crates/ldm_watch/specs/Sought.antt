-- What one who watches asks for.
use Rattle.std.specs.Prelude.{ℕ, Option}
use Rattle.ldm_types.specs.declared.class.ClassSpec.{ClassSpec}
use Rattle.ldm_watch.specs.declared.form.NoticeForm.{NoticeForm}
use Rattle.ldm_watch.specs.declared.watching.Watching.{Watching}

-- The products of a class, up to so many where a count is given, and how the lines are written.
pub record Sought : Type 0 where
  pub class : ClassSpec
  pub count : Option ℕ
  pub form : NoticeForm

-- what a watching asks for that has just begun
abbrev pub sought_by : Watching → Sought
sought_by w = record { class = w.class; count = w.left; form = w.form }
