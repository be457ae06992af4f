mod NeverLaws
