mod Middle
