-- A worked example: a notebook, written as marimo writes them, and its lines.
use Rattle.std.specs.Prelude.{ℕ, List, [], ◌∷◌, ◌++◌, codes}
use Rattle.lexical_form.specs.LogicalLines.{Line}
use Rattle.lexical_form.specs.Worked.{name, number, text, mark, f_text, chars, field, line_of}

abbrev pub notebook_file : List ℕ
notebook_file =
    codes "import marimo\n" ++ codes "\n" ++ codes "__generated_with = \"0.11.0\"\n" ++ codes "app = marimo.App(width=\"medium\")\n" ++ codes "\n" ++ codes "\n" ++ codes "@app.cell\n" ++ codes "def _():\n" ++ codes "    import marimo as mo\n" ++ codes "    return (mo,)\n" ++ codes "\n" ++ codes "\n" ++ codes "@app.cell\n" ++ codes "def _(mo):\n" ++ codes "    # how many\n" ++ codes "    count = mo.ui.slider(1, 5, label=\"count\")\n" ++ codes "    unit = mo.ui.dropdown(\n" ++ codes "        options=[\"cm\", \"m\"],\n" ++ codes "        value=\"cm\",\n" ++ codes "    )\n" ++ codes "    mo.vstack([count, unit])\n" ++ codes "    return count, unit\n" ++ codes "\n" ++ codes "\n" ++ codes "@app.cell(hide_code=True)\n" ++ codes "def _(count, mo, unit):\n" ++ codes "    mo.md(f\"\"\"**{count.value * 2}** {unit.value}\"\"\")\n" ++ codes "    return\n" ++ codes "\n" ++ codes "\n" ++ codes "if __name__ == \"__main__\":\n" ++ codes "    app.run()\n"

abbrev pub notebook_lines : List Line
notebook_lines =
    line_of 1 0 (name "import" ∷ name "marimo" ∷ [])
    ∷ line_of 3 0 (name "__generated_with" ∷ mark "=" ∷ text "\"0.11.0\"" ∷ [])
    ∷ line_of 4 0 (name "app" ∷ mark "=" ∷ name "marimo" ∷ mark "." ∷ name "App" ∷ mark "(" ∷ name "width" ∷ mark "=" ∷ text "\"medium\"" ∷ mark ")" ∷ [])
    ∷ line_of 7 0 (mark "@" ∷ name "app" ∷ mark "." ∷ name "cell" ∷ [])
    ∷ line_of 8 0 (name "def" ∷ name "_" ∷ mark "(" ∷ mark ")" ∷ mark ":" ∷ [])
    ∷ line_of 9 4 (name "import" ∷ name "marimo" ∷ name "as" ∷ name "mo" ∷ [])
    ∷ line_of 10 4 (name "return" ∷ mark "(" ∷ name "mo" ∷ mark "," ∷ mark ")" ∷ [])
    ∷ line_of 13 0 (mark "@" ∷ name "app" ∷ mark "." ∷ name "cell" ∷ [])
    ∷ line_of 14 0 (name "def" ∷ name "_" ∷ mark "(" ∷ name "mo" ∷ mark ")" ∷ mark ":" ∷ [])
    ∷ line_of 16 4 (name "count" ∷ mark "=" ∷ name "mo" ∷ mark "." ∷ name "ui" ∷ mark "." ∷ name "slider" ∷ mark "(" ∷ number "1" ∷ mark "," ∷ number "5" ∷ mark "," ∷ name "label" ∷ mark "=" ∷ text "\"count\"" ∷ mark ")" ∷ [])
    ∷ line_of 17 4 (name "unit" ∷ mark "=" ∷ name "mo" ∷ mark "." ∷ name "ui" ∷ mark "." ∷ name "dropdown" ∷ mark "(" ∷ name "options" ∷ mark "=" ∷ mark "[" ∷ text "\"cm\"" ∷ mark "," ∷ text "\"m\"" ∷ mark "]" ∷ mark "," ∷ name "value" ∷ mark "=" ∷ text "\"cm\"" ∷ mark "," ∷ mark ")" ∷ [])
    ∷ line_of 21 4 (name "mo" ∷ mark "." ∷ name "vstack" ∷ mark "(" ∷ mark "[" ∷ name "count" ∷ mark "," ∷ name "unit" ∷ mark "]" ∷ mark ")" ∷ [])
    ∷ line_of 22 4 (name "return" ∷ name "count" ∷ mark "," ∷ name "unit" ∷ [])
    ∷ line_of 25 0 (mark "@" ∷ name "app" ∷ mark "." ∷ name "cell" ∷ mark "(" ∷ name "hide_code" ∷ mark "=" ∷ name "True" ∷ mark ")" ∷ [])
    ∷ line_of 26 0 (name "def" ∷ name "_" ∷ mark "(" ∷ name "count" ∷ mark "," ∷ name "mo" ∷ mark "," ∷ name "unit" ∷ mark ")" ∷ mark ":" ∷ [])
    ∷ line_of 27 4 (name "mo" ∷ mark "." ∷ name "md" ∷ mark "(" ∷ f_text "f\"\"\"**{count.value * 2}** {unit.value}\"\"\"" (chars "**" ∷ field (name "count" ∷ mark "." ∷ name "value" ∷ mark "*" ∷ number "2" ∷ []) ∷ chars "** " ∷ field (name "unit" ∷ mark "." ∷ name "value" ∷ []) ∷ []) ∷ mark ")" ∷ [])
    ∷ line_of 28 4 (name "return" ∷ [])
    ∷ line_of 31 0 (name "if" ∷ name "__name__" ∷ mark "==" ∷ text "\"__main__\"" ∷ mark ":" ∷ [])
    ∷ line_of 32 4 (name "app" ∷ mark "." ∷ name "run" ∷ mark "(" ∷ mark ")" ∷ []) ∷ []
