-- What a line of a script is, as the code holds it.
use Rattle.tdl_app.specs.declared.script.LineClass.{LineClass as Kept}
use Rattle.tdl_app.specs.declared.script.LineClass.TheVariants as kept
use Rattle.tdl_app.specs.Script.{LineClass, performers, tick, finish, other, too_long}

abbrev pub class_kept : Kept → LineClass
class_kept (kept.Performer who text) = performers who text.now
class_kept (kept.Tick text) = tick text.now
class_kept kept.Finish = finish
class_kept kept.Other = other
class_kept kept.TooLong = too_long
