-- The words' command, as definitions speak of it.
use Rattle.command_meaning.specs.Commands as meaning
use Rattle.cli_words.specs.declared.command.Command.{Command}
use Rattle.cli_words.specs.declared.command.Command.TheVariants as command

abbrev pub asked : Command → meaning.Command
asked (command.Once file) = meaning.Once file.now
asked (command.Play file script) = meaning.Play file.now script.now
